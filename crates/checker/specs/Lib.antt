-- What the contracts of check cite: what a check promises, and what its inner functions promise one another.
pub mod Check
pub mod CheckSteps
pub mod Answers
