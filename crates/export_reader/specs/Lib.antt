-- What a caller in another language sees of the reader.
pub mod Exported
