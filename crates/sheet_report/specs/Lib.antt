-- What is printed for a sheet's file.
pub mod Said
