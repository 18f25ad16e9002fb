-- The least number that passes a test, and whether there is one.
pub use Rattle.record_layouts.proofs.Least.{Passing, any_found, any_none, any_passing, least_by, least_found, least_none, least_passes, least_within}
