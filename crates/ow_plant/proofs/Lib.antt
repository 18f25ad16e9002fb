-- Lemmas of the plant: its displays, that it stays armed, that there is room for its panics and each comes exactly at its
-- point, what is lent of it, and programs on their page tables.
pub mod Coming
pub mod Handed
pub mod Rows
pub mod Armed
pub mod Exact
pub mod Room
pub mod Loans
pub mod Programs
