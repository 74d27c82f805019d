-- What a caller in another language sees of how far ahead the modulator reads.
pub mod Exported
