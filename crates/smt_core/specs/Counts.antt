-- How many events of a history each actor has made.
use Rattle.std.specs.Prelude.{◌≡◌, ℕ, nat_le, List, Some, slice_get}
use Rattle.events.specs.{declared.event.Event.Event, Event.actor_of}
use Rattle.smt_model.specs.{Basics.how_many, Account.event_count}

-- At each place k stands the number of actor k's events.
abbrev pub AreCounts : List Event → List ℕ → Type 0
AreCounts past counts = (k n : ℕ) → slice_get counts k ≡ Some n → n ≡ event_count k past

-- How many events are by this actor or one of a greater number.
abbrev pub made_from : ℕ → List Event → ℕ
made_from k past = how_many (λ e. nat_le k (actor_of e)) past
