-- What the contracts of the waiting pieces cite: the pieces of a window, which of them wait, and how they are found.
pub mod Pieces
pub mod Waits
