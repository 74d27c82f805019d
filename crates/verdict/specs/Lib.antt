-- Verdicts as numbers.
pub mod Verdict
