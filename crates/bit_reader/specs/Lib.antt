-- The image reader.
pub mod Reader
