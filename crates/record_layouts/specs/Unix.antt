-- The Unix: its states, what calls, signals, turns and traps make of them, what a panic leaves of them and what is made of
-- that, whole runs and the report. No layout is named here.
pub mod State
pub mod Children
pub mod Choice
pub mod Calls
pub mod Spaces
pub mod Signals
pub mod Turn
pub mod Traps
pub mod Broken
pub mod Wounds
pub mod Abort
pub mod Panics
pub mod Run
pub mod Report
pub mod PanicReport
