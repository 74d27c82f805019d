-- What bytes leave in the register.
pub mod Register
