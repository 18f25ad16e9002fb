-- The lemmas of the crate: addresses behind the last one cannot be read, and where a word can be stored; what a descriptor
-- names, by the records and in the Unix; what records stand for of which a process becomes another, which records a call
-- sets, and that they are sound; pages that are prepared, and how many there are; terminals with bytes more; what the
-- records of a fork are and stand for; the slot of a child that becomes free, and a word of a process that is stored; and
-- from these, that a call that is served is the call of the Unix.
pub mod Behind
pub mod Stored
pub mod Naming
pub mod Altered
pub mod Becoming
pub mod AfterSound
pub mod Written
pub mod Described
pub mod Grown
pub mod Counted
pub mod Forked
pub mod ForkPlan
pub mod ForkNumbers
pub mod ForkSound
pub mod Joining
pub mod ForkUnix
pub mod ForkServed
pub mod Freed
pub mod WordPut
pub mod WaitPlan
pub mod WaitSound
pub mod WaitUnix
pub mod Planning
pub mod Served
pub mod Entered
pub mod Further
pub mod WordsStay
pub mod KeptSound
pub mod Exported
