-- What only steps need.
pub mod Places
