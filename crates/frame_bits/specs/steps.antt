-- The bits of a recording frame.
pub mod Words
pub mod Slices
