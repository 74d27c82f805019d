-- Lists given by their elements, written at places, combined or compared, bytes, the lowest index that passes a test, and how many do.
pub mod Tabulate
pub mod Bytes
pub mod First
pub mod Scatter
pub mod Same
pub mod Zeros
pub mod Combined
pub mod HowMany
pub mod Differing
