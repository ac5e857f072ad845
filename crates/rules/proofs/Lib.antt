pub mod Searches
pub mod Sets
pub mod Local
pub mod Window
pub mod Blank
pub mod Vetted
pub mod Once
