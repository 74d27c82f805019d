-- Laws of channel bits, levels and sums; examples.
pub mod Channel
pub mod Examples
