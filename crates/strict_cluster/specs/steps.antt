-- What the steps leave.
pub mod Given
