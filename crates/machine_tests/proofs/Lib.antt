-- Lemmas of the tests.
pub mod Stores
