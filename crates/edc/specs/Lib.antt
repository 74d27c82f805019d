-- The error-detection code.
pub mod Edc
