-- Actors, and the jobs that they have open.
use Rattle.std.specs.Prelude.{ℕ, Bool, ◌==◌, nat_lt, if◌then◌else◌, List, [], ◌∷◌, length, Option}
use Rattle.std.specs.Prelude.{Some, None, slice_get, option_and_then}
use Rattle.smt_model.specs.Words.{UnitKind, Event, Issue, Complete, Drop}
use Rattle.smt_model.specs.Setup.{Setup, unit_of_role}

abbrev pub is_actor : Setup → ℕ → Bool
is_actor setup actor = nat_lt actor (length setup.roles)

-- The kind of unit that an actor is, where it is one.
abbrev pub unit_of_actor : Setup → ℕ → Option UnitKind
unit_of_actor setup actor = option_and_then unit_of_role (slice_get setup.roles actor)

-- An actor's open job: what it issued last, and has neither completed nor dropped.
abbrev pub job : List Event → ℕ → Option ℕ
job [] k = None
job (Issue actor seq ∷ past) k = if actor == k then Some seq else job past k
job (Complete actor seq outcome ∷ past) k = if actor == k then None else job past k
job (Drop actor seq ∷ past) k = if actor == k then None else job past k
job (_ ∷ past) k = job past k
