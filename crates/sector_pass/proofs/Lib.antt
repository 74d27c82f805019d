-- The pass over a sector.
pub mod Pass
pub mod Counterexamples
