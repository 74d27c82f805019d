-- What the steps leave.
pub mod Read
