-- The physical registers that pass a test, as a list: as the core's parts have it.
pub use Rattle.core_parts.specs.Listed.{listed}
