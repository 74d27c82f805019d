-- The field of 256 elements, and its tables.
pub mod Field
pub mod Tables
