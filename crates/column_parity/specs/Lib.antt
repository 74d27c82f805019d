-- What is answered and left for a column's data, and what is promised of it.
pub mod Outcome
pub mod Promise
