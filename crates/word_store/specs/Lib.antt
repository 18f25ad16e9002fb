-- What contracts say of memory whose words are stored one by one.
pub mod Stores
pub mod Own
