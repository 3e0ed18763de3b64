use Rattle.std.specs.Prelude.{◌≡◌, find, reverse, take}
use Rattle.reports.specs.Ends.{is_last_of}
use Rattle.reports.proofs.ends.stopped.last_of.Given as goal

-- the last of those so far that is of the hart
abbrev pub invariant-loop-retired : goal.invariant-loop-retired
invariant-loop-retired l = l.last ≡ find (is_last_of l.hart) (reverse (take l.retired-index l.records))
