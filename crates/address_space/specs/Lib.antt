-- The definitions that the contracts cite.
pub mod Writable
pub mod Spaces
pub mod Preparing
pub mod Copying
