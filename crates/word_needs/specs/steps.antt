-- What only the steps need.
pub mod Walk
