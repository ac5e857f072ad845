-- What the contracts of the bytes cite: numbers, words, parts of a line, the script reader, the line buffer with the zeros behind it, and bytes put into a slice.
pub mod Number
pub mod Decimal
pub mod Word
pub mod Part
pub mod Script
pub mod Line
pub mod Padding
pub mod Put
