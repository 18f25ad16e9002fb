-- The area that takes over.
pub mod Areas
