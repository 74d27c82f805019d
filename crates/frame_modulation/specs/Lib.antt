-- What the steps are given.
pub mod steps
