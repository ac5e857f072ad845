-- What the contracts of the macros cite: width and spacing, the rules that they make, and what each call answers.
pub mod Macros
pub mod Expansion
pub mod Both
pub mod Worked
