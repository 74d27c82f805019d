-- Laws of what is printed for a sheet's file.
pub mod Words
pub mod Statements
