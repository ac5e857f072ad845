-- What is said of a layout over time, worked squares, and the numbers that C is given.
pub mod Pack
pub mod History
pub mod Worked
