-- Which texts are refused, at which line and why, and how a world is read.
pub mod WorldLines
pub mod WorldFacts
pub mod WorldReasons
pub mod WorldRefusals
pub mod WorldReading
pub mod RunLog
