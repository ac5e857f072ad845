-- What the contracts of marking cite.
pub mod Edge
pub mod Chains
pub mod Near
