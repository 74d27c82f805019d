-- The three numberings: physical sectors, address units, groove addresses.
pub mod Zones
pub mod Judged
pub mod Conversions
