-- What the contracts of the lines cite: the session as a machine over bytes, and how the program's state holds it.
pub mod Session
pub mod Held
