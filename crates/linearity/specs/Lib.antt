-- Sums of sectors.
pub mod Linearity
