-- What the steps leave.
pub mod Taken
