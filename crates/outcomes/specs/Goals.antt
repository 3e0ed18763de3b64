-- What is watched of a machine stays there, whatever it learns.
use Rattle.std.proofs.Common.{sym, subst}
use Rattle.condensed_machine.specs.Machine.{Machine, Program, Grows}
use Rattle.watched_outcomes.specs.{declared.watch.Watch.Watch, Watching.AreThere}
use Rattle.outcomes.specs.Refusals.{AreWords}

abbrev pub IsWatchedIn : Watch → Machine → Type 0
IsWatchedIn watch m = AreThere m.program.harts watch × AreWords m.program.image watch

pub still_watched : (watch : Watch) (m n : Machine) → Grows m n → IsWatchedIn watch m → IsWatchedIn watch n
still_watched watch m n grows there =
    subst (λ (p : Program). AreThere p.harts watch × AreWords p.image watch) (sym grows.program) there
