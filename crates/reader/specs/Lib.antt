-- What the reader answers and leaves, and what is promised of it.
pub mod Outcome
pub mod Promise
pub mod steps
