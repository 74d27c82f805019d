-- What the steps leave.
pub mod Written
