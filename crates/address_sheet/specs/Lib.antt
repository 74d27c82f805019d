-- Sheets of addresses, and what is promised of them.
pub mod Sheet
pub mod Promise
