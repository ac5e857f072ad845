-- The laws of the shared tiles.
pub mod Alikes
