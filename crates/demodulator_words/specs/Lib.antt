-- What the steps hold and leave.
pub mod steps
