-- What mark says.
pub mod Marking
