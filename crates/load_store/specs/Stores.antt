-- The stores of a hart in flight, as a history has them.
use Rattle.std.specs.Prelude.{ℕ, if◌then◌else◌, List, map, filter, None, option_and_then}
use Rattle.events.specs.declared.event.Event.{Event}
use Rattle.smt_model.specs.{Kinds.kind_of, Kinds.is_storing, Flights.flight, Looks.stored_by}
use Rattle.smt_model.specs.Fates.{fate, is, Completed, completion, op_at}
use Rattle.load_store.specs.declared.store.Store.{Store}

-- Store s, with what it will write once it has completed.
abbrev pub store_at : List Event → ℕ → Store
store_at past s = record {
  seq = s;
  write = if is (fate past s) Completed
      then option_and_then (stored_by (op_at past s)) (completion past s) else None;
}

-- The stores of hart h in flight, the oldest first.
abbrev pub stores_at : List Event → ℕ → List Store
stores_at past h =
    map (store_at past) (filter (λ s. is_storing (kind_of (op_at past s))) (flight past h))
