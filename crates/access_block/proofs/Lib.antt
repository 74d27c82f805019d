-- An access block, put together.
pub mod Writing
