-- Laws of the commands.
pub mod Keywords
pub mod Reading
pub mod Whole
