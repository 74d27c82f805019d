-- What the steps leave.
pub mod steps
