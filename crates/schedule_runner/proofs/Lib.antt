-- How a run ends, and that it goes on; and what a plant is after a revival.
pub mod Points
pub mod Fronts
pub mod Running
pub mod Panicking
pub mod PanicEntries
pub mod AreaWords
pub mod DeadImages
pub mod EnteredPanics
pub mod Halves
pub mod ShownAgain
pub mod Revivals
pub mod FlightRoom
pub mod Refused
