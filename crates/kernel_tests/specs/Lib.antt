-- The records of a view whose only process makes calls.
pub mod Small
