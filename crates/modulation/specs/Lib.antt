-- 17PP modulation, the frame sync, and what is promised of a run of frames.
pub mod Modulation
pub mod Bits
pub mod Machine
pub mod Sync
pub mod Stream
pub mod Gaps
pub mod Demodulator
pub mod steps
