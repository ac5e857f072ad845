-- What the contracts of the rules cite: the edge rules, what they forbid, and what each call answers.
pub mod Some
pub mod Sets
pub mod Words
pub mod Forbid
pub mod Answers
pub mod Vetting
