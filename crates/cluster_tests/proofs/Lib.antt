-- The tests put together.
pub mod Testing
