-- What the contracts of a turn cite: a run of check, a row swept, and what a turn promises.
pub mod Sweep
pub mod Run
pub mod Turn
pub mod Lending
