-- Document 01's tests 9 to 16.
pub mod Tests
pub mod steps
