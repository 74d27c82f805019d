-- Laws of tests one after the other.
pub mod Tests
