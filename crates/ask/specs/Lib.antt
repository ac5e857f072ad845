-- What the contracts of the questions cite.
pub mod Side
pub mod Worked
