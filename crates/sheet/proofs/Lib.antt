-- The laws of layouts, each file named after its subject.
pub mod Shapes
pub mod Reports
