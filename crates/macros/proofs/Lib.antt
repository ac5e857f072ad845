-- The laws of the macros, each file named after its subject.
pub mod Puts
pub mod Counts
pub mod Spaces
pub mod Expands
pub mod MacroOnce
