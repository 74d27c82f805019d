-- What decode reads and says.
pub mod Decoded
