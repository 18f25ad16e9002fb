-- The worlds and states that are worked, what panics leave of them, and the reports of their runs.
pub mod Rows
pub mod Mixed
pub mod Pairs
