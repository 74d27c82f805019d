-- A sheet as a file, and for the steps what is kept of it while it is read.
pub mod File
pub mod steps
