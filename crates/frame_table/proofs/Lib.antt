-- The lemmas of the crate: which pages the regions hold, what a frame that is found tells, that tables are read as
-- pages, and that each user frame is free or that of a page.
pub mod Counting
pub mod Found
pub mod Tables
pub mod Framed
pub mod Free
pub mod Keeping
pub mod Kept
pub mod Users
