-- What is shown.
pub mod TrialsHold
