-- What the contracts of the replies cite, and worked replies.
pub mod Reply
pub mod Worked
