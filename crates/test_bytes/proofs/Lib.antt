-- A law that the proof of `times` cites.
pub mod Product
