-- The verdict, comparison by comparison.
pub mod Compared
