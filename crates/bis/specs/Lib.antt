-- From the sector number and the side data of a cluster to its BIS cluster, and what is read in a BIS block.
pub mod AddressField
pub mod AccessBlock
pub mod BisBlock
pub mod BisCluster
pub mod Reading
