-- Sums of sectors.
pub mod Statements
pub mod Counterexamples
