-- What the filter of the second looks rests on: a load that no write has touched since its first
-- look retires with what that look gave. [Cain and Lipasti, ISCA 2004, section 3]
use Rattle.std.specs.Prelude.{◌≡◌, ℕ, ◌+◌, ◌<◌, ◌≤◌, true, false, List, ◌∷◌, Some, None}
use Rattle.smt_model.specs.Words.{Outcome, Effect, Event, Complete}
use Rattle.smt_model.specs.{Setup.Setup, Bytes.read, Effects.last_effect, Memory.byte_at}
use Rattle.smt_model.specs.{Kinds.kind_of, Kinds.is_loading, Flights.flight}
use Rattle.smt_model.specs.Touched.{shares_byte, is_touched, loads, looks}
use Rattle.smt_model.specs.Fates.{Fetched, fetching, op_of_fetched, completion, fate, is, Completed}
use Rattle.smt_model.specs.Rules.{is_allowed, is_legal, is_first, computed_at, effect_now}

-- A load that has completed and is the oldest of its hart in flight: the next of it to retire.
pub record IsNextLoad (past : List Event) (s : ℕ) (f : Fetched) (o : Outcome) : Type 0 where
  pub fetched : fetching past s ≡ Some f
  pub loading : is_loading (kind_of (op_of_fetched (Some f))) ≡ true
  pub completed : is (fate past s) Completed ≡ true
  pub said : completion past s ≡ Some o
  pub oldest : is_first s (flight past f.hart) ≡ true

-- The number that memory has for it is the one that its first look gave.
abbrev pub UntouchedLoadsReadTheSame : Type 0
UntouchedLoadsReadTheSame =
    (setup : Setup) (past : List Event) → is_legal setup past
    → (s : ℕ) (f : Fetched) (o : Outcome) → IsNextLoad past s f o → is_touched past s ≡ false
    → (v : ℕ) → o.value ≡ Some v
    → read (op_of_fetched (Some f)) (byte_at setup past) (computed_at setup past s f).addr ≡ v

-- What a load retires with where it keeps what its completion said.
abbrev pub kept_effect : Outcome → Effect
kept_effect o = record (last_effect o.next) { value = o.value }

-- It retires with that.
abbrev pub UntouchedLoadsKeep : Type 0
UntouchedLoadsKeep =
    (setup : Setup) (past : List Event) → is_legal setup past
    → (s : ℕ) (f : Fetched) (o : Outcome) → IsNextLoad past s f o → is_touched past s ≡ false
    → effect_now setup past s f ≡ kept_effect o

-- So does one that gives no register a number, touched or not: its rd is x0, or it stops.
abbrev pub LoadsOfNothingKeep : Type 0
LoadsOfNothingKeep =
    (setup : Setup) (past : List Event) → is_legal setup past
    → (s : ℕ) (f : Fetched) (o : Outcome) → IsNextLoad past s f o → o.value ≡ None
    → effect_now setup past s f ≡ kept_effect o

-- ---- What is touched, and who looks again

-- An address is one of both.
pub record IsShared (a n b m : ℕ) : Type 0 where
  pub one : ℕ
  pub from_a : a ≤ one
  pub to_a : one < a + n
  pub from_b : b ≤ one
  pub to_b : one < b + m

-- Two accesses share a byte where there is such an address, and else not.
abbrev pub SharesWhereOneIs : Type 0
SharesWhereOneIs = (a n b m : ℕ)
    → (shares_byte a n b m ≡ true → IsShared a n b m) × (IsShared a n b m → shares_byte a n b m ≡ true)

-- As an instruction completes nothing has touched it.
abbrev pub CompletionsAreUntouched : Type 0
CompletionsAreUntouched =
    (setup : Setup) (past : List Event) → is_legal setup past
    → (actor s : ℕ) (o : Outcome) → is_allowed setup past (Complete actor s o)
    → is_touched (Complete actor s o ∷ past) s ≡ false

-- No more look again than retire.
abbrev pub LooksAreOfLoads : Type 0
LooksAreOfLoads = (setup : Setup) (past : List Event) → is_legal setup past → looks past ≤ loads past
