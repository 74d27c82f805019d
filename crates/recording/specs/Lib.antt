-- The recording of an ECC cluster, and what is read in the bits of one.
pub mod Recording
pub mod Reading
pub mod steps
