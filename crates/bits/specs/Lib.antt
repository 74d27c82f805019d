-- The bits of bytes.
pub mod Bits
pub mod Step
pub mod steps
