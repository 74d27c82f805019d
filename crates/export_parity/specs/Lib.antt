-- What a caller in another language sees of a column's parity.
pub mod Exported
