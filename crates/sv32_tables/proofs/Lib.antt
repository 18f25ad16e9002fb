-- The lemmas of the crate: where the entries that a kernel makes lead, and how a program steps on its tables.
pub mod Entries
pub mod Bytes
pub mod Spaces
