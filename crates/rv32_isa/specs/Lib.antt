-- The definitions that the contracts cite: the instructions, their words and what they do.
pub mod Fields
pub mod Table
pub mod Rows
pub mod Meaning
