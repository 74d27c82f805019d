-- How the sizes hang together.
pub mod Sizes
