-- An ECC cluster, put together.
pub mod Encoding
