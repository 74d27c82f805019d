-- Laws of what decode leaves.
pub mod Decoded
