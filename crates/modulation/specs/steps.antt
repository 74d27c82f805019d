-- What only steps need: pairs by number, groups in bytes, data bits in words.
pub mod Pairs
pub mod Groups
pub mod Words
