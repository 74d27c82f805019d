-- Frame syncs.
pub mod Sync
pub mod steps
