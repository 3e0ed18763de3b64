-- What comes next, as an instruction says: defined where it is declared.
pub use Rattle.events.specs.Nexts.{is_last, pc_after, redirect_pc}
