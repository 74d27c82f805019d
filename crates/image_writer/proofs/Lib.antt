-- An image put together.
pub mod Frames
