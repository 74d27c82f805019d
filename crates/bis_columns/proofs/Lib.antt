-- A column judged.
pub mod Judging
