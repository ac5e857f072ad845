-- The laws of marking a piece's errors.
pub mod MarkErrors
