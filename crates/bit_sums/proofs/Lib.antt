-- Laws of a number and itself some bits lower.
pub mod Folded
