-- The tables by which frames are modulated, and what the steps leave.
pub mod steps
