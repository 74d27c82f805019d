-- Demand 3; an accepted input, its first #, and the tally (Statements).
pub mod Recordings
pub mod Demand3
pub mod Packed
pub mod Statements
