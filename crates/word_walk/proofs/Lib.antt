-- What a word of a frame needs, pair by pair.
pub mod Tables
pub mod Pairs
pub mod Walking
