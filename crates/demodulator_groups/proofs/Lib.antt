-- Groups behind groups, and what is read of them.
pub mod Windows
pub mod Running
