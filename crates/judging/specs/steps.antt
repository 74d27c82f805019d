-- What the steps leave.
pub mod Tested
