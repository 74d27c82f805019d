-- Texts, the numbers in them, and pieces of them.
pub mod Text
pub mod Numbers
pub mod Pieces
