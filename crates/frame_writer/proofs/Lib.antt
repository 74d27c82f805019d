-- Recording frames written.
pub mod Copy
pub mod Image
