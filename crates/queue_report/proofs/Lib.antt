-- Laws of what is printed for a record.
pub mod Words
pub mod Statements
