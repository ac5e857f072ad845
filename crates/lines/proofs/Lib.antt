-- Laws of the lines.
pub mod Chunks
pub mod Steps
pub mod Feeds
