-- Laws of what mark says.
pub mod Marking
