-- Where each hart fetches next, and which hart does. [ICOUNT fetch: Tullsen and others, ISCA 1996]
use Rattle.std.specs.Prelude.{ℕ, Bool, true, not, ◌==◌, ◌&&◌, nat_lt, if◌then◌else◌, List, [], ◌∷◌}
use Rattle.std.specs.Prelude.{◌++◌, filter, length, Option, Some, None}
use Rattle.numbers.specs.Sizes.{latch_room}
use Rattle.smt_model.specs.Words.{Event, Fetch, Complete, Retire, Refetch}
use Rattle.smt_model.specs.{Basics.below, Basics.first_least, Setup.Setup, Nexts.pc_after}
use Rattle.smt_model.specs.{Fates.is_of, Fates.mispredicts, Fates.squashes_at_retirement}
use Rattle.smt_model.specs.Fates.{Fetched, fetching}
use Rattle.smt_model.specs.{Flights.in_decode, Flights.icount, Memory.is_going}

-- The pc of an instruction, where it is hart h's.
abbrev pub refetch_pc : Option Fetched → ℕ → ℕ → ℕ
refetch_pc None h before = before
refetch_pc (Some f) h before = if f.hart == h then f.pc else before

-- Where hart h fetches next: at the entry, or where its last fetch predicted or its last squash
-- sent it; a refetch sends it to the pc of its instruction. An end or a stop leaves it where it
-- was.
abbrev pub fetch_pc : Setup → List Event → ℕ → ℕ
fetch_pc setup [] h = setup.image.entry
fetch_pc setup (Fetch actor hart seq pc word predicted ∷ past) h =
    if hart == h then predicted else fetch_pc setup past h
fetch_pc setup (Complete actor seq outcome ∷ past) h =
    if is_of past h seq && mispredicts past seq outcome.next
    then pc_after outcome.next (fetch_pc setup past h)
    else fetch_pc setup past h
fetch_pc setup (Retire actor seq effect ∷ past) h =
    if is_of past h seq && squashes_at_retirement past seq effect
    then pc_after effect.next (fetch_pc setup past h)
    else fetch_pc setup past h
fetch_pc setup (Refetch actor seq ∷ past) h =
    refetch_pc (fetching past seq) h (fetch_pc setup past h)
fetch_pc setup (_ ∷ past) h = fetch_pc setup past h

-- The hart that was fetched last.
abbrev pub last_fetched : List Event → Option ℕ
last_fetched [] = None
last_fetched (Fetch actor hart seq pc word predicted ∷ past) = Some hart
last_fetched (_ ∷ past) = last_fetched past

-- The harts in turn: from the one after the last fetched, going round; hart 0 first where there is
-- none.
abbrev pub is_after : Option ℕ → ℕ → Bool
is_after None h = true
is_after (Some last) h = nat_lt last h

abbrev pub turn : ℕ → Option ℕ → List ℕ
turn harts last =
    filter (is_after last) (below harts) ++ filter (λ h. not (is_after last h)) (below harts)

-- The hart is going and has room in its decode latch.
abbrev pub may_fetch : List Event → ℕ → Bool
may_fetch past h = is_going past h && nat_lt (length (in_decode past h)) latch_room

-- The hart to fetch: of those that may, the one with the fewest instructions in decode, rename and
-- queue, and of equals the first in turn.
unfoldable pub choice : Setup → List Event → Option ℕ
choice setup past =
    first_least (icount past) (filter (may_fetch past) (turn setup.harts (last_fetched past)))
