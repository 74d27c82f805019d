-- Laws of recordings; what the tests mean is in Statements.
pub mod Places
pub mod Frames
pub mod Accepting
pub mod Back
pub mod Statements
