-- How many bits of a frame a word's modulation bits need.
pub mod Needed
pub mod Promise
pub mod steps
