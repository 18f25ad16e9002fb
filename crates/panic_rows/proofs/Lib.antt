-- Lemmas on what broken traps count and leave and on whole runs, and the worked runs.
pub mod Putting
pub mod OneRun
pub mod Coming
pub mod Quiet
pub mod Running
pub mod Worked
pub mod Pairs
