-- Channel bits.
pub mod Channel
