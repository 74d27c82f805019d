-- The demodulating automaton.
pub mod Automaton
pub mod steps
