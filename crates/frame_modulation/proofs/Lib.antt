-- A frame on its way into bytes.
pub mod Going
