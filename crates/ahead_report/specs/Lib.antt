-- What is printed for a frame.
pub mod Said
