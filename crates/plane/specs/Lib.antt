-- What the contracts of the tile plane cite: pictures, strips and tables, and what each call answers.
pub mod Picture
pub mod Strips
pub mod Words
pub mod Plane
pub mod Refusal
pub mod Answers
pub mod Point
pub mod Listing
pub mod Area
pub mod Sides
pub mod Fill
