-- The lemmas of the crate: ranges of bytes of which each is tested, the bytes that are read and those that are stored, what
-- holds of an answer and of the process that goes on, and pages that are prepared, one or each in the next free frame.
pub mod Tested
pub mod Reading
pub mod Bytes
pub mod Stored
pub mod WordStored
pub mod Outcomes
pub mod Living
pub mod Prepared
pub mod UserFrames
pub mod PagesPrepared
pub mod BareTables
pub mod Taking
pub mod Growing
pub mod Copying
