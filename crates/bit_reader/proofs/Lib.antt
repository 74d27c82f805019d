-- What is shown of the image reader.
pub mod Fields
pub mod Statements
