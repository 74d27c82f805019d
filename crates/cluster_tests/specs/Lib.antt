-- What the steps find.
pub mod steps
