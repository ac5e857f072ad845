-- The laws of a layout over time and of the numbers that C is given, each file named after its subject.
pub mod Ranges
pub mod Packs
pub mod Once
pub mod Settles
pub mod FarSquares
pub mod Histories
pub mod SettledAreas
pub mod Ends
pub mod Useless
