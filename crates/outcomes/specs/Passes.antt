-- Why one pass of a search has no outcomes.
use Rattle.std.specs.Prelude.{◌≡◌, ℕ, false}
use Rattle.elf_image.specs.Image.{ProgramImage}
use Rattle.live_registers.specs.declared.targets.Targets.{Targets}
use Rattle.watched_outcomes.specs.declared.watch.Watch.{Watch}
use Rattle.outcomes.specs.declared.refused.OutcomesRefused.TheVariants.{Memory}
use Rattle.outcomes.specs.declared.unfound.Unfound.{Unfound}
use Rattle.outcomes.specs.declared.unfound.Unfound.TheVariants.{Refused, Lacks}
use Rattle.outcomes.specs.Refusals.{IsRefusedFor}

-- None can be found; or a hart jumps where the targets don't allow it, so they don't allow all.
abbrev pub IsUnfoundFor : ProgramImage → ℕ → Watch → Targets → Unfound → Type 0
IsUnfoundFor image harts watch targets (Refused why) = IsRefusedFor image harts watch why
IsUnfoundFor image harts watch targets (Lacks jump) = targets.anywhere ≡ false

-- Why its search ends before all states are visited: there is no memory, or for such a jump.
abbrev pub IsCutShort : Targets → Unfound → Type 0
IsCutShort targets (Refused why) = why ≡ Memory
IsCutShort targets (Lacks jump) = targets.anywhere ≡ false
