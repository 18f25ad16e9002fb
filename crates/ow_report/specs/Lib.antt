-- What is written of a run: how lines are put together, and the plant beside the state that is reported.
pub mod Writing
pub mod Agrees
