-- Runs of records.
pub mod Steps
pub mod Turns
pub mod Origins
pub mod Statements
pub mod Counterexamples
