-- What the contracts of a piece cite: the local picture around a block, and the marks near it.
pub mod Cut
pub mod Remark
pub mod Rows
pub mod Runs
pub mod Shown
pub mod Calm
pub mod Worked
