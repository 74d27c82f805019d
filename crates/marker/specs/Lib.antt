-- The marker's verdict.
pub mod Marked
