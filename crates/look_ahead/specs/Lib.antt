-- What is answered for a frame, and what is promised of it.
pub mod Outcome
pub mod Promise
