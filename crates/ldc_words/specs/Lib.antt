-- Code words of the LDC block.
pub mod steps
