-- What is kept of a file while it is read.
pub mod Reading
