-- What is handed in and given back, and what is promised of it.
pub mod Exported
pub mod Statements
