-- The definitions that contracts cite: a Unix that never panics, the texts in and out of it, and images of memory.
pub mod Words
pub mod Seals
pub mod UserStep
pub mod Pages
pub mod Sv32
pub mod Screen
pub mod Lines
pub mod World
pub mod Outside
pub mod Fakes
pub mod Entries
pub mod Images
