-- The table, row by row.
pub mod Rows
