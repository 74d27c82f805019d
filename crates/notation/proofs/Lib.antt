-- Laws of digits and of words, and what reading back gives (Statements).
pub mod Digits
pub mod Words
pub mod Statements
