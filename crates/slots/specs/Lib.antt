-- What the contracts of the working slice cite.
pub mod Slots
