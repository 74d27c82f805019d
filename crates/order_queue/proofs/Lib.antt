-- Laws of the queue, as its functions use them and for whoever speaks of runs.
pub mod Records
pub mod Submits
pub mod Serves
pub mod Requests
pub mod Statements
