-- File names.
pub mod Names
