-- A space of 64 bytes on which single steps are tried.
pub mod SmallSpace
