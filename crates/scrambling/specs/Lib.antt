-- Scrambling.
pub mod Scrambling
