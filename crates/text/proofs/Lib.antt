-- Laws of the bytes, each module after its subject.
pub mod Words
pub mod Parts
pub mod Numbers
pub mod Puts
pub mod Decimals
pub mod Scripts
pub mod Paddings
