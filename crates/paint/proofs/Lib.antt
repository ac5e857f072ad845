-- The laws of the calls, each file named after its subject.
pub mod Brushes
pub mod Once
pub mod Again
