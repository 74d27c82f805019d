-- How many bits of a frame a word needs.
pub mod Fixing
pub mod Rows
pub mod Walk
pub mod Starts
pub mod Statements
