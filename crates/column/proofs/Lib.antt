-- The laws of columns, a file for each subject.
pub mod Sums
pub mod Value
pub mod Generator
pub mod Division
pub mod Register
pub mod Powers
pub mod Sparse
pub mod Unique
pub mod Roots
pub mod Linear
pub mod Parity
pub mod Multiple
pub mod Distance
