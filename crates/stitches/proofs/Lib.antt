-- The laws of stitching, each file named after its subject.
pub mod Stitches
pub mod Moves
