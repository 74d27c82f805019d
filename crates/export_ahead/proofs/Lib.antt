-- The parts that are returned.
mod Exported
