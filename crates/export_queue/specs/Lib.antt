-- What a caller in another language hands over, and what it sees of a record that was handled.
pub mod Exported
