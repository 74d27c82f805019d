-- The images of a sheet's clusters.
pub mod Statements
pub mod Counterexamples
