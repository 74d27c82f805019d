-- What a caller in another language sees of the marker.
pub mod Exported
