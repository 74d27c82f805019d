-- The AUNs of a block, and its PSN.
pub mod Judging
