-- What the steps find and leave.
pub mod Read
