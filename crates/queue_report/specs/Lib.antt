-- What is printed for a record of the queue.
pub mod Said
