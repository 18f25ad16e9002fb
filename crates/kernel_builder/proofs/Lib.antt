-- Lemmas of the builder: records of what a kernel does not have, records that are set and their words counted, tables and
-- owners that are filled, pages that are copied, and what these make together, and what is read then.
pub mod Blanks
pub mod Sets
pub mod Counts
pub mod Filling
pub mod Copying
pub mod Built
pub mod Reading
