-- What a step of a hart comes to, by the numbers of parts: it hangs on the hart, on how that stands and on what the
-- harts share, and on nothing else. [Michie 1968, "Memo functions and machine learning"]
use Rattle.std.specs.Prelude.{◌≡◌, ◌&&◌, Bool, true, nat_eq, List, Some, slice_index}
use Rattle.std.specs.Map.{lookup}
use Rattle.sc_machine.specs.declared.hart.Hart.{Hart}
use Rattle.changed_memory.specs.Shared.{Shared}
use Rattle.outcome_laws.specs.{Local.fits, Paths.stepped}
use Rattle.condensed_machine.specs.Machine.{Machine, Program, HasCode, tables_of}
use Rattle.condensed_machine.specs.Executing.{InEachState, IsExecuted, IsBehind, ComesToRest}
use Rattle.condensed_machine.specs.{Resting.keeps_reservation, Settling.IsFree, Tables.HasNumber, Tables.IsSharedAfter}
use Rattle.condensed_machine.specs.declared.executed.Executed.{Executed}
use Rattle.condensed_machine.specs.declared.moves.MoveFrom.{MoveFrom}
use Rattle.condensed_machine.specs.declared.moves.MoveTo.{MoveTo}

-- From the hart and the shared parts with these numbers the hart's next instruction leads, and so many local steps
-- behind it, to those with the others, in whatever state they stand so; and it fits the tables. x0 is 0 there, and code
-- that may not be written is what the image has. Whether the hart is free behind its instruction is known.
pub record IsMove (p : Program) (harts : List Hart) (shared : List Shared) (from : MoveFrom)
    (to : MoveTo) : Type 0 where
  pub here : Hart
  pub common : Shared
  pub at : HasNumber harts here from.number
  pub shares : HasNumber shared common from.shared
  pub zero : slice_index here.registers 0 ≡ 0
  pub code : HasCode p.image common
  pub done : Executed
  pub behind : Hart
  pub moved : Hart
  pub executed : InEachState p from.hart here common (λ setup s. IsExecuted setup s from.hart done)
  pub is_behind : InEachState p from.hart here common (λ setup s. IsBehind setup s from.hart behind)
  pub fitting : InEachState p from.hart here common (λ setup s. fits setup (tables_of p) from.hart s ≡ true)
  pub free : Bool
  pub is_free : InEachState p from.hart here common (λ setup s. IsFree free from.hart (stepped setup from.hart s))
  pub rests : ComesToRest p free behind to.steps moved
  pub has : HasNumber harts moved to.number
  pub after : IsSharedAfter p.image from.hart done (keeps_reservation p moved) common shared to.shared

-- So it is by a machine's tables.
abbrev pub IsMoveOf : Machine → MoveFrom → MoveTo → Type 0
IsMoveOf m from to = IsMove m.program m.hart_states m.shared_states from to

-- Steps begin alike: of one hart, with the same numbers.
abbrev pub is_same_from : MoveFrom → MoveFrom → Bool
is_same_from a b = nat_eq a.hart b.hart && (nat_eq a.number b.number && nat_eq a.shared b.shared)

-- Each move that is noted is one.
abbrev pub AreMoves : Program → List Hart → List Shared → List (MoveFrom × MoveTo) → Type 0
AreMoves p harts shared noted = (from : MoveFrom) (to : MoveTo) → lookup (is_same_from from) noted ≡ Some to
    → IsMove p harts shared from to
