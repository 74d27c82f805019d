-- The ECC cluster: the LDC cluster and the BIS cluster, multiplexed.
pub mod Multiplex
pub mod EccCluster
pub mod Reading
pub mod steps
