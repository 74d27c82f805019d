-- What encode makes and says.
pub mod Encoded
