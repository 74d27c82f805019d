-- The rows of Figure 38 as numbers, and a few pairs modulated by them.
pub mod CodedRows
pub mod FewPairs
pub mod Fitting
pub mod Modulating
pub mod Next
pub mod Search
