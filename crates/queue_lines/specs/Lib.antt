-- Records as a text, and for the steps what is kept of it while it is read.
pub mod Lines
pub mod steps
