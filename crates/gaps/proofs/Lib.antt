-- Laws of gap counts.
pub mod Counting
pub mod Neighbours
