-- The laws of the field, a file for each subject; proofs/Field.antt has the field's axioms and what follows from them.
pub mod Sum
pub mod Linear
pub mod Product
pub mod Power
pub mod Logarithm
pub mod Inverse
pub mod Lookup
pub mod Field
