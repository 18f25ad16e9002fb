-- The least number that passes a test.
pub use Rattle.record_layouts.specs.Least.{IsLeast, NonePasses}
