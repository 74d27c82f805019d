-- What the programs print.
pub mod Words
