-- Laws of the replies.
pub mod Lines
