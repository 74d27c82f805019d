-- Laws of the gaps of a frame and of the tally.
pub mod FrameCounted
pub mod TallyCases
