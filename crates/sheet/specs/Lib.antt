-- What the contracts of a layout's test and of report cite.
pub mod Layout
pub mod Ready
pub mod Report
pub mod Answers
pub mod Steps
