-- How far apart two columns lie.
pub mod Distance
