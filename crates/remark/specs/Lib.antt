-- What the contracts of marking a piece's errors cite.
pub mod Marking
