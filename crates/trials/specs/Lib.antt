-- The starred trials of document 01.
pub mod Trials
