-- Lemmas on answers of either kind, on words of an area that are stored, and on the half of a kernel that takes over.
pub mod Outcomes
pub mod Stores
pub mod Owned
