-- Recording frames written.
pub mod Written
