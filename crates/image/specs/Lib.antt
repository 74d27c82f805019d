-- The image of a cluster.
pub mod Image
