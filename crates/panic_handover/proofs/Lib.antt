-- Lemmas on words behind which their seal stands, on how a hand-over is spelled, and on how one is read.
pub mod Sealed
pub mod Spelled
pub mod Reading
