-- Lemmas of the report.
pub mod Reports
pub mod Entries
