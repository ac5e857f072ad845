-- What the contracts of the calls cite.
pub mod Paint
pub mod Steps
