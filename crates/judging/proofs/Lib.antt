-- Laws of the tests; what test 14 means is in Statements.
pub mod Judging
pub mod Passing
pub mod Statements
