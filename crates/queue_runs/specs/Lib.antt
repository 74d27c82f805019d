-- Runs of records, and what is promised of them.
pub mod Runs
pub mod Promise
