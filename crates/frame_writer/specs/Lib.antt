-- Recording frames written.
pub mod steps
