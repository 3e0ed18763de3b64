-- Harts that lose their reservations by a step of another hart, and follow their local steps behind it.
use Rattle.std.specs.Prelude.{◌≡◌, ℕ, ◌<◌, nat_eq, true, List, [], None, Some, length, slice_index, slice_index_or}
use Rattle.std.specs.Map.{lookup}
use Rattle.sc_machine.specs.declared.hart.Hart.{Hart}
use Rattle.changed_memory.specs.Shared.{reserved_at}
use Rattle.condensed_machine.specs.{Machine.Machine, Machine.Program, Machine.InEachSetup, Tables.HasNumber}
use Rattle.condensed_machine.specs.{Executing.ComesToRest, Decoded.decoded, Decoded.state_of}
use Rattle.condensed_machine.specs.Steps.{SettlesBy, turns}
use Rattle.condensed_machine.specs.declared.{state.State.State, losing.Rest.Rest, losing.Followed.Followed}

-- By so many local steps the hart with a number, where it has no reservation, comes to rest as the one with another. x0
-- is 0 there.
pub record IsRest (p : Program) (harts : List Hart) (number : ℕ) (to : Rest) : Type 0 where
  pub here : Hart
  pub at : HasNumber harts here number
  pub zero : slice_index here.registers 0 ≡ 0
  pub moved : Hart
  pub rests : ComesToRest p true here to.steps moved
  pub has : HasNumber harts moved to.number

-- So it is by a machine's tables.
abbrev pub IsRestOf : Machine → ℕ → Rest → Type 0
IsRestOf m number to = IsRest m.program m.hart_states number to

-- What is noted of each hart that has lost its reservation is so.
abbrev pub AreRests : Program → List Hart → List (ℕ × Rest) → Type 0
AreRests p harts noted = (number : ℕ) (to : Rest) → lookup (nat_eq number) noted ≡ Some to → IsRest p harts number to

-- Hart h has no reservation in a state.
abbrev pub IsFreeIn : Machine → State → ℕ → Type 0
IsFreeIn m s h = reserved_at (decoded m s).shared h ≡ None

-- These local steps lead from one state to another.
abbrev pub FollowsBy : Machine → List ℕ → State → State → Type 0
FollowsBy m order s t = InEachSetup m.program (λ setup. SettlesBy setup m.program order (state_of m s) (state_of m t))

-- The others have followed their local steps from a state, in turn, each as often as the row says.
pub record HasFollowed (m : Machine) (s : State) (followed : Followed) : Type 0 where
  pub row : followed.others < length m.rows
  pub leads : FollowsBy m (turns (slice_index_or m.rows followed.others []) m.program.harts) s followed.state
