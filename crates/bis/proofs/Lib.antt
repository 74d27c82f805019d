-- Statements.antt has what other crates cite, Figures.antt what the standard prints.
pub mod Mapping
pub mod AddressFields
pub mod Psn
pub mod Blocks
pub mod Statements
pub mod Figures
