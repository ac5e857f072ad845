-- What the contracts of the test cite: its answer, and what its steps find.
pub mod Checks
pub mod Vet
