-- How far ahead the modulator reads in a frame.
pub mod Counting
pub mod Outcome
pub mod Statements
