-- A frame as words, and the loops that read it.
pub mod Words
pub mod Reading
