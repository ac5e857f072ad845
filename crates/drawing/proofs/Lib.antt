-- The laws of create and paint, each file named after its subject.
pub mod Creates
pub mod Paints
pub mod Stays
pub mod Shows
