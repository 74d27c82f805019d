-- The error-detection code.
pub mod Polynomial
pub mod Division
pub mod Detection
pub mod Quotient
pub mod Register
pub mod Loops
pub mod Linear
