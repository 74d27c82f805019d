-- Scrambling.
pub mod EightShifts
pub mod Stream
