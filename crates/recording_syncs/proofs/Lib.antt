-- Syncs judged, and the first #.
pub mod Judging
