-- The reader's steps, images under the tests, and what is promised (Statements).
pub mod Reading
pub mod Images
pub mod Statements
