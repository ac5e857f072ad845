-- What the contracts of a brush cite.
pub mod Brush
