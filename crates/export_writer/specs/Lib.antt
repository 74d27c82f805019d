-- What a caller in another language sees of the writer.
pub mod Exported
