-- The side data, byte by byte.
pub mod Judging
