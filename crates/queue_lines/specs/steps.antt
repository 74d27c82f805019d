-- What is kept of a text while it is read.
pub mod Reading
