-- The bits of a recording frame.
pub mod FrameBits
pub mod Window
pub mod Unweaving
pub mod Weaving
pub mod Pairs
