-- The laws of the questions to a table, each file named after its subject.
pub mod Alongs
pub mod Asked
pub mod Once
pub mod Handles
