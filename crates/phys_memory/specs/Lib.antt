-- What contracts say of memory, and of its two halves while one is lent for writing.
pub mod Memory
pub mod Halves
pub mod Reading
pub mod Lending
