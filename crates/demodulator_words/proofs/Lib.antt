-- What is held between two words.
pub mod Held
