-- The tests, case by case.
pub mod Judging
