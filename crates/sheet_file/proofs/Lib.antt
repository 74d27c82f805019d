-- Lines, entries, and a file read byte by byte.
pub mod Lines
pub mod Entries
pub mod Files
