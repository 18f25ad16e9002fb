-- The lemmas of the crate: which page is the first without a frame, what decodes and what is the first that cannot be
-- read, what the records of a process that is left say, which rows of a terminal decode, and which pid is live in each
-- slot.
pub mod Framed
pub mod Firsts
pub mod Records
pub mod LostRows
pub mod LiveIn
