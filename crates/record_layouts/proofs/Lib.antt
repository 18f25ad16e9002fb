-- Lemmas on turns, their traps and what these count, on least numbers, on sums, on records of any kind, on lists that are
-- laid one behind the other, on bytes in words, on how the records with lists are written, on how records are read, on
-- pages that have frames, on the ranges of an intent, and on what these and single stores make of the records of an area.
pub mod Turning
pub mod Counting
pub mod Surviving
pub mod Least
pub mod Sums
pub mod Records
pub mod Reading
pub mod Living
pub mod At
pub mod Seam
pub mod Stores
pub mod Parts
pub mod Processes
pub mod Laying
pub mod PackedBytes
pub mod Signals
pub mod Rows
pub mod Files
pub mod Ranges
pub mod Intents
pub mod Items
pub mod Frames
pub mod LeftImages
pub mod Words
pub mod Alike
