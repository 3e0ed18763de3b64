-- The loads and stores of each hart that are in flight, in program order.
use Rattle.std.specs.Prelude.{◌≡◌, ℕ, ◌<◌, nat_le, Bool, false, ◌==◌, ◌||◌, List, [], ◌∷◌, ◌++◌}
use Rattle.std.specs.Prelude.{map, filter, drop, length, slice_index_or, if◌then◌else◌, Option, Some}
use Rattle.std.specs.Prelude.{None, IfSome, option_map}
use Rattle.std.specs.List.{AllByRecursion}
use Rattle.events.specs.declared.effect.Written.{Written}
use Rattle.smt_model.specs.Touched.{shares_byte}
use Rattle.rv_execute.specs.Access.{IsSize}
use Rattle.load_store.specs.{declared.load.Load.Load, declared.load.FirstLook.FirstLook}
use Rattle.load_store.specs.declared.store.Store.{Store}

-- What one hart has: its loads and its stores.
pub record Queues : Type 0 where
  pub loads : List Load
  pub stores : List Store

abbrev pub empty : Queues
empty = record { loads = []; stores = [] }

-- The queues of hart h.
abbrev pub queues_of : List Queues → ℕ → Queues
queues_of all h = slice_index_or all h empty

-- Hart `hart`'s queues are changed so, and those of every other hart are as they were; there are as many.
abbrev pub Changes : (Queues → Queues) → ℕ → List Queues → List Queues → Type 0
Changes change hart before after =
    (length after ≡ length before)
    × ((h : ℕ) → queues_of after h
    ≡ (if h == hart then change (queues_of before h) else queues_of before h))

-- The number is above all of these.
abbrev pub Above : ℕ → List ℕ → Type 0
Above seq xs = AllByRecursion (λ x. x < seq) xs

-- Each number is above those before it.
abbrev pub IsRising : List ℕ → Type 0
IsRising [] = Unit {0}
IsRising (x ∷ xs) = AllByRecursion (λ y. x < y) xs × IsRising xs

abbrev pub load_numbers : List Load → List ℕ
load_numbers xs = map (λ x. x.seq) xs

abbrev pub numbers : List Store → List ℕ
numbers xs = map (λ x. x.seq) xs

-- What a resolved store will write is of a size that a store has.
abbrev pub IsSized : Store → Type 0
IsSized x = IfSome x.write (λ w. IsSize w.n)

-- With one more load or store, the youngest of its hart; at first a load has had no look, and a store
-- isn't resolved.
abbrev pub new_load : ℕ → Load
new_load seq = record { seq = seq; look = None }

abbrev pub with_load : ℕ → Queues → Queues
with_load seq q = record q { loads = q.loads ++ new_load seq ∷ [] }

abbrev pub new_store : ℕ → Store
new_store seq = record { seq = seq; write = None }

abbrev pub with_store : ℕ → Queues → Queues
with_store seq q = record q { stores = q.stores ++ new_store seq ∷ [] }

-- The store of this number will write this; every other one is as it was.
abbrev pub resolved : ℕ → Written → Store → Store
resolved seq w x = if x.seq == seq then record x { write = Some w } else x

abbrev pub with_resolved : ℕ → Written → Queues → Queues
with_resolved seq w q = record q { stores = map (resolved seq w) q.stores }

-- The load of this number has looked; every other one is as it was.
abbrev pub looking : ℕ → FirstLook → Load → Load
looking seq look x = if x.seq == seq then record x { look = Some look } else x

-- No write has touched these n bytes since it has looked.
abbrev pub look_at : ℕ → ℕ → FirstLook
look_at addr n = record { addr = addr; n = n; touched = false }

abbrev pub with_look : ℕ → ℕ → ℕ → Queues → Queues
with_look seq addr n q = record q { loads = map (looking seq (look_at addr n)) q.loads }

-- After a write every look is touched that shares a byte with it, and those that were.
abbrev pub touched_look : Written → FirstLook → FirstLook
touched_look w x = record x { touched = x.touched || shares_byte w.addr w.n x.addr x.n }

abbrev pub touched_load : Written → Load → Load
touched_load w x = record x { look = option_map (touched_look w) x.look }

abbrev pub with_touch : Written → Queues → Queues
with_touch w q = record q { loads = map (touched_load w) q.loads }

-- The load of this number has looked, and was touched since.
abbrev pub was_touched : Option FirstLook → Bool
was_touched None = false
was_touched (Some x) = x.touched

abbrev pub needs_look : ℕ → List Load → Bool
needs_look seq [] = false
needs_look seq (x ∷ xs) = if x.seq == seq then was_touched x.look else needs_look seq xs

-- Without the oldest load or store.
abbrev pub without_load : Queues → Queues
without_load q = record q { loads = drop 1 q.loads }

abbrev pub without_store : Queues → Queues
without_store q = record q { stores = drop 1 q.stores }

-- Without those younger than this number.
abbrev pub load_stays : ℕ → Load → Bool
load_stays after x = nat_le x.seq after

abbrev pub stays : ℕ → Store → Bool
stays after x = nat_le x.seq after

abbrev pub squashed : ℕ → Queues → Queues
squashed after q =
    record { loads = filter (load_stays after) q.loads; stores = filter (stays after) q.stores }

-- What the oldest store will write, where there is one and it is resolved.
abbrev pub oldest_write : List Store → Option Written
oldest_write [] = None
oldest_write (x ∷ xs) = x.write
