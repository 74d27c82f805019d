-- What the steps give.
pub mod LowBits
