-- What the contracts of the program cite: the wire, what passes over it, and what the whole session promises; and the specification's example session.
pub mod Wire
pub mod Exchange
pub mod Conversed
pub mod Example
