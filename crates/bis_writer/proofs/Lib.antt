-- A code word of the BIS block, put together.
pub mod Writing
