-- The laws of check, each file named after its subject.
pub mod Checkings
pub mod Runs
pub mod CheckStays
