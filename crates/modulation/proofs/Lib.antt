-- What is promised is in Statements; the other files lead there, and to the proofs of the functions.
pub mod Bits
pub mod Fronts
pub mod Words
pub mod Size
pub mod Machine
pub mod Reading
pub mod Demodulator
pub mod Joined
pub mod Scan
pub mod Spacing
pub mod Streams
pub mod Limits
pub mod Unique
pub mod FirstHash
pub mod Syncs
pub mod Groups
pub mod Statements
