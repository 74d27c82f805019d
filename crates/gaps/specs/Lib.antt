-- Gap lengths counted.
pub mod Gaps
pub mod steps
