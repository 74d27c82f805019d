-- A bit written, and three.
pub mod Write
