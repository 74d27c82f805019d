-- The queue of four benches: its records, what each leaves and reports, and what is promised.
pub mod Records
pub mod Queue
pub mod Promise
