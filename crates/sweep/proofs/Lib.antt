-- The laws of a turn, each file named after its subject.
pub mod Sweeps
pub mod SweptRows
pub mod OnePiece
pub mod Turns
pub mod RowSweep
