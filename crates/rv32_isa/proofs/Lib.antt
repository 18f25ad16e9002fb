-- The lemmas of the crate: the fields of each format, and the rows of the table.
pub mod Formats
pub mod Rows
