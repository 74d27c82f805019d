-- Recording frames: data bits and dc-control bits, frame sync and modulation bits, and back.
pub mod Frame
pub mod Reading
pub mod steps
