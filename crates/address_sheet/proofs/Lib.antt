-- The tests of a sheet, and what is promised of it.
pub mod Tests
pub mod Statements
