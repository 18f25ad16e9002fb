-- Lemmas on stores, and on areas with an intent.
pub mod Changes
pub mod Openings
pub mod Payloads
pub mod Words
pub mod Plants
pub mod Reading
pub mod Holding
pub mod Direct
pub mod Behind
pub mod Unstored
