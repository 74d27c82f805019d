-- The writer's tests, and what is promised (Statements).
pub mod Judging
pub mod Statements
