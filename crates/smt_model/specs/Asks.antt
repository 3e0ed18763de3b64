-- What may be asked of a core, and which events answer it.
use Rattle.std.specs.Prelude.{ℕ, Bool, false, ◌==◌, ◌&&◌, List}
use Rattle.smt_model.specs.Words.{Event, Fetch, Decode, Rename, Issue, Complete, Drop, Retire}
use Rattle.smt_model.specs.Words.{Refetch}
use Rattle.smt_model.specs.Fates.{is_of}

-- One step, by an actor, and of a hart where the step is of one.
pub data Ask : Type 0 where
  AskFetch : (actor : ℕ) → Ask
  AskDecode : (actor hart : ℕ) → Ask
  AskRename : (actor hart : ℕ) → Ask
  AskIssue : (actor : ℕ) → Ask
  AskComplete : (actor : ℕ) → Ask
  AskRetire : (actor hart : ℕ) → Ask

-- The event is of the kind that was asked for, by this actor, and its instruction is one of this
-- hart. What answers a completion is a completion or a drop, and what answers a retirement is a
-- retirement or a refetch.
abbrev pub answers : Ask → List Event → Event → Bool
answers (AskFetch k) past (Fetch actor hart seq pc word predicted) = actor == k
answers (AskDecode k h) past (Decode actor seq) = (actor == k) && is_of past h seq
answers (AskRename k h) past (Rename actor seq phys) = (actor == k) && is_of past h seq
answers (AskIssue k) past (Issue actor seq) = actor == k
answers (AskComplete k) past (Complete actor seq outcome) = actor == k
answers (AskComplete k) past (Drop actor seq) = actor == k
answers (AskRetire k h) past (Retire actor seq effect) = (actor == k) && is_of past h seq
answers (AskRetire k h) past (Refetch actor seq) = (actor == k) && is_of past h seq
answers _ past _ = false
