-- Columns of the Reed-Solomon codes.
pub mod Column
pub mod Distance
