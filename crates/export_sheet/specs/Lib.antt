-- A sheet as a caller in another language hands it over.
pub mod Exported
