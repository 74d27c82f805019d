-- What the steps find.
pub mod Tested
