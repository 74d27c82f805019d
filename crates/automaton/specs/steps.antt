-- The demodulating automaton.
pub mod Table
