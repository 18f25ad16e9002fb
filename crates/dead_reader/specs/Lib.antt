-- The definitions that the contracts cite: the records and the hand-over that are left, the processes, what a process lost,
-- and which terminals can be read.
pub mod Left
pub mod Processes
pub mod Terminals
pub mod Losses
pub mod Cached
