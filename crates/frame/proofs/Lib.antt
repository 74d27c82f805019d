-- Laws of recording frames.
pub mod Reading
pub mod Frame
