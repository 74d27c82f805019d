-- The verdict's tests, and what a pass says (Statements).
pub mod Judging
pub mod Statements
