-- The definitions that the contracts cite: what a call asks for by the records, and what becomes of what is held once
-- it is served.
pub mod Planned
pub mod Serving
pub mod Done
