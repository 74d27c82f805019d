-- Lines, their records, and a text read byte by byte; what is promised of it (Statements).
pub mod Lines
pub mod Records
pub mod Reading
pub mod Statements
