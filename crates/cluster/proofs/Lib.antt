-- Places in the ECC cluster, its rows, and what is promised of it.
pub mod Multiplex
pub mod Places
pub mod Statements
pub mod Rows
