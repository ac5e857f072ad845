-- The laws of a brush, each file named after its subject.
pub mod Bits
pub mod Pieces
pub mod Shows
pub mod Spans
