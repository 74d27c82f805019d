-- Laws of the bits of bytes.
pub mod Bits
pub mod Number
pub mod Read
pub mod Pack
pub mod Concat
pub mod Combined
