-- The definitions that the contracts cite: the flags of an entry, the entries that a kernel makes, where accesses lead,
-- and programs whose tables map distinct frames.
pub mod Flags
pub mod Entries
pub mod Places
pub mod Spaces
