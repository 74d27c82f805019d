-- Definitions that only the steps need.
pub mod Counted
