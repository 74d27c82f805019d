-- Frames read two by two.
pub mod Reading
