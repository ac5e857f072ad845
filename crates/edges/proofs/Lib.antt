-- The laws of marking, each file named after its subject.
pub mod Truths
pub mod Marking
pub mod Edges
pub mod Chains
