-- The laws of the working slice, each file named after its subject.
pub mod Stores
pub mod Places
