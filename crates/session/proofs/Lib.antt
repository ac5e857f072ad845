-- Laws of the session.
pub mod Exchanges
pub mod Wires
pub mod Turns
