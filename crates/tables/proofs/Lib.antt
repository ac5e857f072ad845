-- The laws of whole tables, each file named after its subject.
pub mod Finish
pub mod Whole
pub mod OneTile
