-- Frame syncs.
pub mod SyncTables
pub mod SyncRight
pub mod Writing
