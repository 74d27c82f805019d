-- How far apart two columns lie.
pub mod Statements
pub mod Counterexamples
