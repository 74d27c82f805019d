-- The demodulating automaton.
pub mod Complete
pub mod Sound
pub mod Entries
