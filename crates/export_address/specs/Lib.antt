-- What a caller in another language sees of a conversion.
pub mod Exported
