-- Laws of the table, and of bits on their way into bytes.
pub mod Runs
pub mod Holding
pub mod Tables
pub mod Put
pub mod Turning
pub mod Entries
pub mod Made
