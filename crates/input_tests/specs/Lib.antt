-- The tests of PSN and dc words.
pub mod Parts
