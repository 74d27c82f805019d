-- Laws of what encode leaves.
pub mod Encoded
