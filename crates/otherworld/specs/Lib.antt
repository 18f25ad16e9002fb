-- The definitions that the program's contracts cite beside those of the crates below.
pub mod Top
pub mod Arming
pub mod Rows
