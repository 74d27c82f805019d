-- Words.
pub mod Words
