-- What is given beside what was read.
pub mod Compared
