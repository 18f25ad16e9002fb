-- The definitions that the contracts cite: how many pages the regions hold, the pages of a process by their frames,
-- and which user frames are free.
pub mod Counts
pub mod Maps
pub mod Free
