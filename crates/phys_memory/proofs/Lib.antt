-- Lemmas of memory.
pub mod Words
pub mod Own
pub mod Copies
