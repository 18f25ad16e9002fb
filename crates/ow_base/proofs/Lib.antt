-- Lemmas that several crates use: how writes are put together, how numbers are spelled, which spaces step alike, and what
-- tests of words decide.
pub mod Spelled
pub mod Writing
pub mod Simulations
pub mod Sealing
pub mod Deciding
