-- The laws of the test, each file named after its subject.
pub mod Checked
pub mod Joints
pub mod Ranges
pub mod Vets
