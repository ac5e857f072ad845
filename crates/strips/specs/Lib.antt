-- What the contracts of the rebuild cite: the brush and the picture after it, the squares covered.
pub mod Cover
