-- The definitions that the contracts cite: which state of the Unix a plant stands for, and when it is sound; bytes that
-- are put on a terminal; what a service makes of what is held; how a trap ends; what a turn is; user mode; and what boot
-- leaves.
pub mod Plants
pub mod Putting
pub mod Carrying
pub mod Ending
pub mod Turning
pub mod User
pub mod Boot
pub mod BootStores
pub mod BootRecords
pub mod BootTables
pub mod BootLayout
pub mod BootState
pub mod Traps
pub mod Due
pub mod Broken
pub mod Refused
