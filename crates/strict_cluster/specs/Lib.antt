-- What a strict reader leaves of a cluster.
pub mod Outcome
pub mod steps
