-- The laws of the rebuild, each file named after its subject.
pub mod Stays
pub mod Grows
pub mod Covers
pub mod Builds
