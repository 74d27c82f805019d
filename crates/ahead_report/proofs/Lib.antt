-- Laws of what is printed for a frame.
pub mod Words
pub mod Statements
