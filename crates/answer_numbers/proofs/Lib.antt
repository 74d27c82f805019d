-- Parts of an answer put together.
pub mod Parts
