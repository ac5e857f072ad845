-- What the contracts of the desk cite: the tests of the commands, what each command comes to, and what the desk keeps.
pub mod Tests
pub mod Model
pub mod Answers
pub mod Kept
