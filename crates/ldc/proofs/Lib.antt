-- The interleavings as a permutation, the figures' entries, code words and data frames both ways, and sums.
pub mod Interleaving
pub mod Figures
pub mod CodeWords
pub mod Linear
