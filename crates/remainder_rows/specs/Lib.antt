-- The rows of the table.
pub mod steps
