-- The laws of a piece, each file named after its subject.
pub mod Counts
pub mod Reading
pub mod Drawings
pub mod Cuts
pub mod Exchange
pub mod Views
pub mod Bits
pub mod ShownRows
pub mod Remarks
pub mod Calms
