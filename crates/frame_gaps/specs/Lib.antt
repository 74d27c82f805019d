-- The tally program's answer.
pub mod Tally
