-- Laws of texts, of printed numbers and of pieces.
pub mod Texts
pub mod Numbers
pub mod Pieces
pub mod Distinct
