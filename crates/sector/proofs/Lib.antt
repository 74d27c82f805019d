-- Laws of sectors.
pub mod Frame
pub mod Writing
