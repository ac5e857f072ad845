-- The laws of the waiting pieces, each file named after its subject.
pub mod Blocks
pub mod Waited
