-- What a panic makes of the processes that it left, which of them go on, what a new kernel begins with, and how many stores
-- that takes.
pub mod Procedures
pub mod Survivors
pub mod Revived
pub mod Rebuilt
pub mod RevivedImages
pub mod Plants
pub mod Painting
pub mod Flights
pub mod Counts
