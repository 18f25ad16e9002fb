-- The definitions that the contracts cite: which slots hold what, which process is next, and the records that a
-- process leaves.
pub mod Least
pub mod Slots
pub mod Children
pub mod Choosing
pub mod Patches
pub mod Meaning
