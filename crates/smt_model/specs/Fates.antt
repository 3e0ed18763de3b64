-- What a history says of an instruction. A history is the list of its events, the newest first; an
-- instruction is named by its number, which is how many were fetched before it.
use Rattle.std.specs.Prelude.{ℕ, suc, Bool, false, not, ◌==◌, ◌&&◌, ◌||◌, nat_lt, nat_le}
use Rattle.std.specs.Prelude.{if◌then◌else◌, List, [], ◌∷◌, Option, Some, None, is_some}
use Rattle.smt_model.specs.Words.{op_of_word, Op, NoWord, Next, Outcome, Effect, Event, Fetch}
use Rattle.smt_model.specs.Words.{Decode, Rename, Issue, Complete, Drop, Retire, Refetch}
use Rattle.smt_model.specs.{Basics.holds_of, Basics.same_number, Kinds.kind_of, Kinds.is_loading}
use Rattle.smt_model.specs.{Nexts.is_last, Nexts.redirect_pc, Folds.latest}

-- How many instructions were fetched.
abbrev pub fetches : List Event → ℕ
fetches [] = 0
fetches (Fetch actor hart seq pc word predicted ∷ past) = suc (fetches past)
fetches (_ ∷ past) = fetches past

-- ---- What was fetched

pub record Fetched : Type 0 where
  pub hart : ℕ
  pub pc : ℕ
  pub word : Option ℕ
  pub predicted : ℕ

abbrev pub fetched_by : Event → ℕ → Option Fetched
fetched_by (Fetch actor hart seq pc word predicted) s =
    if seq == s then Some (record { hart = hart; pc = pc; word = word; predicted = predicted })
    else None
fetched_by _ s = None

abbrev pub fetching : List Event → ℕ → Option Fetched
fetching = latest fetched_by

-- The instruction is one of hart h.
abbrev pub is_of : List Event → ℕ → ℕ → Bool
is_of past h s = holds_of (λ f. f.hart == h) (fetching past s)

-- What stands at its pc.
abbrev pub op_of_fetched : Option Fetched → Op
op_of_fetched None = NoWord
op_of_fetched (Some f) = op_of_word f.word

abbrev pub op_at : List Event → ℕ → Op
op_at past s = op_of_fetched (fetching past s)

-- Both are of one hart.
unfoldable pub same_hart : List Event → ℕ → ℕ → Bool
same_hart past s t = holds_of (λ f. is_of past f.hart t) (fetching past s)

-- ---- What its completion said

abbrev pub completed_by : Event → ℕ → Option Outcome
completed_by (Complete actor seq outcome) s = if seq == s then Some outcome else None
completed_by _ s = None

abbrev pub completion : List Event → ℕ → Option Outcome
completion = latest completed_by

-- ---- Squashes. An event squashes all younger instructions of its hart; a refetch its own too.

-- A completion of s with this next is a misprediction: the younger ones were fetched on a wrong
-- path.
unfoldable pub mispredicts : List Event → ℕ → Next → Bool
mispredicts past s next = holds_of (λ f. is_some (redirect_pc next f.predicted)) (fetching past s)

-- The retiring load's value isn't that of its completion. [Cain and Lipasti, ISCA 2004: value-based
-- replay]
abbrev pub is_replayed : List Event → ℕ → Effect → Bool
is_replayed past s effect =
    is_loading (kind_of (op_at past s))
    && holds_of (λ o. not (same_number o.value effect.value)) (completion past s)

-- A retirement of s squashes the younger ones: it ends or stops the hart, or is of a load with
-- another value now.
unfoldable pub squashes_at_retirement : List Event → ℕ → Effect → Bool
squashes_at_retirement past s effect = is_last effect.next || is_replayed past s effect

abbrev pub squashes : Event → List Event → ℕ → Bool
squashes (Complete actor seq outcome) past t =
    mispredicts past seq outcome.next && (nat_lt seq t && same_hart past seq t)
squashes (Retire actor seq effect) past t =
    squashes_at_retirement past seq effect && (nat_lt seq t && same_hart past seq t)
squashes (Refetch actor seq) past t = nat_le seq t && same_hart past seq t
squashes _ past t = false

-- ---- Fates. [the stages of the pipeline: Tullsen and others, ISCA 1996]

-- The last that a history says of an instruction. A halted one has retired, and ended or stopped
-- its hart.
pub data Fate : Type 0 where
  Unknown : Fate
  InDecode : Fate
  InRename : Fate
  Renamed : Fate
  Issued : Fate
  Completed : Fate
  Retired : Fate
  Halted : Fate
  Squashed : Fate

-- How far along the pipeline a fate is.
abbrev pub stage : Fate → ℕ
stage Unknown = 0
stage InDecode = 1
stage InRename = 2
stage Renamed = 3
stage Issued = 4
stage Completed = 5
stage Retired = 6
stage Halted = 7
stage Squashed = 8

abbrev pub is : Fate → Fate → Bool
is f g = stage f == stage g

-- Fetched, and neither retired nor squashed.
abbrev pub is_live : Fate → Bool
is_live f = nat_le 1 (stage f) && nat_le (stage f) 5

-- Renamed, and neither retired nor squashed.
abbrev pub is_in_flight : Fate → Bool
is_in_flight f = nat_le 3 (stage f) && nat_le (stage f) 5

-- In flight, or retired without ending or stopping: what it writes stands.
abbrev pub stands : Fate → Bool
stands f = nat_le 3 (stage f) && nat_le (stage f) 6

-- In decode, in rename or in the queue: what ICOUNT counts.
abbrev pub is_counted : Fate → Bool
is_counted f = nat_le 1 (stage f) && nat_le (stage f) 3

abbrev pub retired_as : Next → Fate
retired_as next = if is_last next then Halted else Retired

-- What an event says of its own instruction. A drop and a refetch say nothing of it.
abbrev pub fate_by : Event → ℕ → Option Fate
fate_by (Fetch actor hart seq pc word predicted) s = if seq == s then Some InDecode else None
fate_by (Decode actor seq) s = if seq == s then Some InRename else None
fate_by (Rename actor seq phys) s = if seq == s then Some Renamed else None
fate_by (Issue actor seq) s = if seq == s then Some Issued else None
fate_by (Complete actor seq outcome) s = if seq == s then Some Completed else None
fate_by (Drop actor seq) s = None
fate_by (Retire actor seq effect) s = if seq == s then Some (retired_as effect.next) else None
fate_by (Refetch actor seq) s = None

abbrev pub squashed_fate : Fate → Fate
squashed_fate old = if is_live old then Squashed else old

-- A squashed one stays so.
abbrev pub next_fate : Option Fate → Bool → Fate → Fate
next_fate (Some new) squashed old = if is old Squashed then old else new
next_fate None squashed old = if squashed then squashed_fate old else old

abbrev pub fate : List Event → ℕ → Fate
fate [] s = Unknown
fate (e ∷ past) s = next_fate (fate_by e s) (squashes e past s) (fate past s)
