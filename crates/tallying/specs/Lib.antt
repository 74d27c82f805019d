-- What the tally program prints.
pub mod Table
