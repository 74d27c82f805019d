-- Document 01's sizes.
pub mod Sizes
