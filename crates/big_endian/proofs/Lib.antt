-- Laws of words and their bytes.
pub mod Words
