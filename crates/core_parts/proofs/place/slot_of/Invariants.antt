use Rattle.std.proofs.Common.{◌≡◌}
use Rattle.std.specs.Prelude.{drop}
use Rattle.core_parts.specs.Place.{slot_in}
use Rattle.core_parts.proofs.place.slot_of.Given as goal

abbrev pub invariant-loop-slot : goal.invariant-loop-slot
invariant-loop-slot l = slot_in (drop l.slot-index l.slots) l.seq ≡ slot_in l.slots l.seq
