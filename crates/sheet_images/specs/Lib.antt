-- The images of a sheet's clusters.
pub mod Images
