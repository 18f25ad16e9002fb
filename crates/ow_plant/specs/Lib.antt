-- The definitions that the plant's contracts cite.
pub mod Dead
pub mod Points
pub mod Past
pub mod State
pub mod Lent
pub mod Owning
pub mod Lending
pub mod Images
