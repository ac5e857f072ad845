-- What the contracts of whole tables cite: a table made like another one, and the steps to it.
pub mod Like
pub mod Tables
