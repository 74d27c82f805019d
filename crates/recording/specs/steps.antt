-- What the steps are given.
pub mod Within
