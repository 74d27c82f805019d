-- The lengths of a column, and what is promised (Statements).
pub mod Lengths
pub mod Statements
