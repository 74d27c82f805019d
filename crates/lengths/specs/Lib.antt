-- The lengths of lent slices.
pub mod Lengths
