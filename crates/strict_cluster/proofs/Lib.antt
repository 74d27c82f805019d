-- The steps of reading put together.
pub mod Reading
