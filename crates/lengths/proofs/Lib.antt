-- Laws of the lengths.
pub mod RightLengths
