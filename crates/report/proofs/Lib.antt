-- Laws of what is printed.
pub mod Words
pub mod Statements
