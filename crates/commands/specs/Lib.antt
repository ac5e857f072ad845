-- What the contracts of the session's commands cite: commands, and the numbers of a line.
pub mod Command
pub mod Numbers
pub mod Worked
