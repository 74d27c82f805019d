-- What the filled table says.
pub mod Table
