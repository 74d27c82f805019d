-- The bits of a recording frame.
pub mod FrameBits
pub mod steps
