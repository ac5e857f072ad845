-- The laws of the desk, each file named after its subject.
pub mod Decides
pub mod RuleLists
pub mod MadeSound
pub mod Draws
pub mod Rulings
