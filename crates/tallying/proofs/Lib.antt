-- Laws of the tally's table.
pub mod Table
pub mod Statements
