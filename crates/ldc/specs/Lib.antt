-- From the 32 data frames of a cluster to its LDC cluster.
pub mod LdcBlock
pub mod LdcCluster
pub mod Places
