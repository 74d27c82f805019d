-- The tables, and what the steps leave.
pub mod Table
pub mod Put
