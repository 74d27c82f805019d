-- The answers of document 01, and those of document 02 that have landed.
pub mod Answer
