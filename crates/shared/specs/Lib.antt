-- What the contracts of the shared tiles cite.
pub mod Shares
