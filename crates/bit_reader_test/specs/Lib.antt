-- Steps of one image reader.
pub mod Steps
