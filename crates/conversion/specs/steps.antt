-- The rows of Figure 38 as numbers, and a few pairs modulated by them.
pub mod Few
pub mod Rows
