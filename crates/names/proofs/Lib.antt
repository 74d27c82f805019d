-- Laws of file names.
pub mod Names
