-- PSNs, the first # and dc words, as arguments and files have them.
pub mod Psn
pub mod FirstHash
pub mod Words
