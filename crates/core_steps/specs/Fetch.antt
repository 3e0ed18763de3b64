-- Which hart a fetch chooses, and what it changes in that hart.
use Rattle.std.specs.Prelude.{◌≡◌, ℕ, ◌+◌, ◌<◌, Bool, ◌&&◌, nat_lt, nat_le, if◌then◌else◌, List, []}
use Rattle.std.specs.Prelude.{◌∷◌, ◌++◌, filter, length, Option, Some, None, slice_get}
use Rattle.numbers.specs.Sizes.{latch_room, most_events}
use Rattle.smt_model.specs.{Basics.holds_of, Basics.below, Basics.first_least, Fates.Fetched}
use Rattle.smt_model.specs.{Fetching.turn, Picture.Picture, Plain.is_going_status, Steps.IsFetch}
use Rattle.rv_instr.specs.Decode.{op_of_word}
use Rattle.core_steps.specs.{declared.point.FetchPoint.FetchPoint}
use Rattle.core_parts.specs.{declared.slot.Slot.Slot}
use Rattle.core_parts.specs.{declared.hart.HartState.HartState}

-- The hart is going and has room in its decode latch.
abbrev pub has_room : HartState → Bool
has_room x = is_going_status x.status && nat_lt (length x.decode_latch.items) latch_room

abbrev pub may_fetch_at : List HartState → ℕ → Bool
may_fetch_at harts h = holds_of has_room (slice_get harts h)

abbrev pub count_of : Option HartState → ℕ
count_of None = 0
count_of (Some x) = x.icount

abbrev pub count_at : List HartState → ℕ → ℕ
count_at harts h = count_of (slice_get harts h)

-- The hart to fetch: of those that may be, the one of the lowest count, and of equals the first in
-- turn.
abbrev pub next_hart : List HartState → Option ℕ → Option ℕ
next_hart harts last =
    first_least (count_at harts) (filter (may_fetch_at harts) (turn (length harts) last))

-- Hart h comes before the best so far.
abbrev pub is_better : List HartState → ℕ → Option ℕ → Bool
is_better harts h None = may_fetch_at harts h
is_better harts h (Some best) =
    may_fetch_at harts h && nat_lt (count_at harts h) (count_at harts best)

-- The best of some harts, in order, and of one found before.
abbrev pub better_of : List HartState → Option ℕ → List ℕ → Option ℕ
better_of harts best [] = best
better_of harts best (h ∷ rest) =
    better_of harts (if is_better harts h best then Some h else best) rest

-- The numbers from the one to below the other.
abbrev pub from_to : ℕ → ℕ → List ℕ
from_to from to = filter (nat_le from) (below to)

-- What enters the decode latch by a fetch at this point.
abbrev pub slot_at : ℕ → FetchPoint → ℕ → Slot
slot_at seq point predicted =
    record {
      seq = seq;
      pc = point.pc;
      word = point.word;
      op = op_of_word point.word;
      predicted = predicted;
    }

-- What is fetched by hart h.
abbrev pub fetched_of : ℕ → Slot → Fetched
fetched_of h slot = record { hart = h; pc = slot.pc; word = slot.word; predicted = slot.predicted }

-- A fetch of hart h that can be made.
pub record Fetches (p q : Picture) (h : ℕ) (slot : Slot) : Type 0 where
  pub room : length (p.in_decode h) < latch_room
  pub few : p.icount h < most_events
  pub is : IsFetch p q slot.seq (fetched_of h slot)

-- The hart has one more in its decode latch, and fetches next where that was predicted to go.
pub record IsFetchedInto (slot : Slot) (old new : HartState) : Type 0 where
  pub decode_latch : new.decode_latch.items ≡ old.decode_latch.items ++ slot ∷ []
  pub rename_latch : new.rename_latch ≡ old.rename_latch
  pub active : new.active ≡ old.active
  pub maps : new.maps ≡ old.maps
  pub icount : new.icount ≡ old.icount + 1
  pub fetch_pc : new.fetch_pc ≡ slot.predicted
  pub status : new.status ≡ old.status
