-- The BIS cluster in the ECC cluster.
pub mod Written
