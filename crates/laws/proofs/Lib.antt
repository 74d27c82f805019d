-- The laws, a file for each subject.
pub mod Finite
pub mod Tabulate
pub mod Fill
pub mod Scatter
pub mod First
pub mod Bytes
pub mod Xor
pub mod Combined
pub mod HowMany
pub mod Differing
pub mod Booleans
pub mod Same
pub mod Shifts
pub mod Zeros
pub mod FromFn
pub mod Found
