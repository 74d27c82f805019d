-- Data frames.
pub mod DataFrame
