-- The laws of the tile plane, each file named after its subject.
pub mod Basics
pub mod Runs
pub mod Lists
pub mod Tiling
pub mod Index
pub mod Tables
pub mod ToTable
pub mod Walks
pub mod Listings
pub mod FromTable
pub mod Counting
pub mod Shares
pub mod Lowests
pub mod Once
pub mod Tiles
