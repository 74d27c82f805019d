-- Laws and statements on the three numberings.
pub mod Judging
pub mod Accepted
pub mod Statements
pub mod Converting
