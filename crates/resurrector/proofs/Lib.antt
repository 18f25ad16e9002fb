-- Lemmas of the resurrector: a process that goes on can be spelled, descriptors that are closed, what became of slots, the
-- next pid, frames of pages, the fates that are told, and the records that decode; and, where the panic damaged nothing, that
-- what is built stands for the state that Abort leaves: first for a process and its record alone, then for pages, records,
-- processes, descriptions and the whole; and that it is sound: slots, pids, descriptors, tables, terminals and the whole. Then
-- the plant: what is lent and given back, displays that are painted, and bytes in flight.
pub mod Reviving
pub mod Descriptors
pub mod Outcomes
pub mod Pids
pub mod Frames
pub mod Telling
pub mod Whole
pub mod Outside
pub mod Paged
pub mod RebuiltPages
pub mod Unhurt
pub mod UnhurtRecords
pub mod Undamaged
pub mod Survivals
pub mod RebuiltRecords
pub mod RebuiltProcesses
pub mod RebuiltDescriptions
pub mod RebuiltUnix
pub mod ToldFates
pub mod FewFates
pub mod Built
pub mod LeftRevivals
pub mod SoundSlots
pub mod SoundPids
pub mod SoundDescriptors
pub mod SoundTables
pub mod SoundScreens
pub mod SoundRevived
pub mod Loans
pub mod Painted
pub mod InFlight
pub mod SoundFlights
