-- Answers as numbers.
pub mod Numbers
