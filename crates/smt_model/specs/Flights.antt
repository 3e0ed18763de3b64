-- The places of the pipeline, as lists of the instructions in them, rising.
use Rattle.std.specs.Prelude.{ℕ, ◌==◌, if◌then◌else◌, List, [], ◌∷◌, ◌++◌, filter}
use Rattle.smt_model.specs.{Words.Event, Words.Fetch, Basics.how_many}
use Rattle.smt_model.specs.Fates.{fate, is, is_in_flight, is_live, is_counted, InDecode, InRename}
use Rattle.smt_model.specs.Fates.{Renamed}

-- The instructions of hart h.
abbrev pub added : Event → ℕ → List ℕ
added (Fetch actor hart seq pc word predicted) h = if hart == h then seq ∷ [] else []
added _ h = []

abbrev pub numbers : List Event → ℕ → List ℕ
numbers [] h = []
numbers (e ∷ past) h = numbers past h ++ added e h

-- The instructions of all harts.
abbrev pub added_by_any : Event → List ℕ
added_by_any (Fetch actor hart seq pc word predicted) = seq ∷ []
added_by_any _ = []

abbrev pub all_numbers : List Event → List ℕ
all_numbers [] = []
all_numbers (e ∷ past) = all_numbers past ++ added_by_any e

-- The decode latch and the rename latch of hart h.
abbrev pub in_decode : List Event → ℕ → List ℕ
in_decode past h = filter (λ s. is (fate past s) InDecode) (numbers past h)

abbrev pub in_rename : List Event → ℕ → List ℕ
in_rename past h = filter (λ s. is (fate past s) InRename) (numbers past h)

-- The active list of hart h: renamed, issued or completed, and not retired.
abbrev pub flight : List Event → ℕ → List ℕ
flight past h = filter (λ s. is_in_flight (fate past s)) (numbers past h)

-- All that is fetched and neither retired nor squashed.
abbrev pub live : List Event → ℕ → List ℕ
live past h = filter (λ s. is_live (fate past s)) (numbers past h)

-- The issue queue, all harts together.
abbrev pub queue : List Event → List ℕ
queue past = filter (λ s. is (fate past s) Renamed) (all_numbers past)

-- The instructions of hart h in decode, rename and queue. [ICOUNT: Tullsen and others, ISCA 1996]
abbrev pub icount : List Event → ℕ → ℕ
icount past h = how_many (λ s. is_counted (fate past s)) (numbers past h)
