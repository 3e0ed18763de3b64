-- What holds in every legal history, whatever the program. Each law stands on a function of
-- `histories` that does nothing.
use Rattle.std.specs.Prelude.{◌≡◌, ◌⊎◌, ℕ, ◌<◌, ◌≤◌, Bool, true, false, ◌==◌, ◌&&◌, ◌||◌, List, ◌∷◌}
use Rattle.std.specs.Prelude.{Some}
use Rattle.events.specs.{Kind.event_kind, Kind.letter_of, declared.kind.EventKind.EventKind}
use Rattle.smt_model.specs.{Words.seq_of, Words.Outcome, Words.Event, Basics.or_zero}
use Rattle.smt_model.specs.{Basics.how_many, Setup.Setup, Kinds.first_source, Kinds.second_source}
use Rattle.smt_model.specs.{Faults.computed_on, Outcomes.outcome_of, Memory.is_going}
use Rattle.smt_model.specs.{Rules.is_allowed, Rules.is_legal}
use Rattle.smt_model.specs.Fates.{Fate, Unknown, InDecode, InRename, Renamed, Issued, Completed}
use Rattle.smt_model.specs.Fates.{Retired, Halted, Squashed, Fetched, fetching, op_of_fetched}
use Rattle.smt_model.specs.Fates.{is_of, completion, fate, is, is_live, is_in_flight}
use Rattle.smt_model.specs.Registers.{phys, source, committer, holder, source_register, committed}
use Rattle.smt_model.specs.Registers.{claims, value, result_of, reads, is_ready}

-- ---- Each instruction moves by the eight steps alone

-- The steps ahead, each by an event of its own.
abbrev pub is_next : Fate → Fate → Bool
is_next Unknown new = is new InDecode
is_next InDecode new = is new InRename
is_next InRename new = is new Renamed
is_next Renamed new = is new Issued
is_next Issued new = is new Completed
is_next Completed new = is new Retired || is new Halted
is_next _ new = false

-- It stays, goes a step ahead, or is squashed where it was live.
abbrev pub may_become : Fate → Fate → Bool
may_become old new = is old new || (is_next old new || (is_live old && is new Squashed))

abbrev pub MovesByStep : Type 0
MovesByStep = (setup : Setup) (past : List Event) → is_legal setup past → (e : Event)
    → is_allowed setup past e
    → (s : ℕ) → may_become (fate past s) (fate (e ∷ past) s) ≡ true

-- An instruction has at most one event of each kind.
abbrev pub OneOfAKind : Type 0
OneOfAKind = (setup : Setup) (past : List Event) → is_legal setup past → (s : ℕ) (kind : EventKind)
    → how_many (λ e. (seq_of e == s) && (letter_of (event_kind e) == letter_of kind)) past ≤ 1

-- ---- Fates are in order

-- How far along: those in flight are side by side, and so are those that have left it.
abbrev pub place : Fate → ℕ
place Unknown = 0
place InDecode = 1
place InRename = 2
place Renamed = 3
place Issued = 3
place Completed = 3
place Retired = 4
place Halted = 4
place Squashed = 5

-- Of two instructions of a hart the younger is never further along, unless it was squashed.
abbrev pub GoesInOrder : Type 0
GoesInOrder = (setup : Setup) (past : List Event) → is_legal setup past → (h s t : ℕ)
    → is_of past h s ≡ true → is_of past h t ≡ true
    → s < t → is (fate past t) Squashed ≡ false → place (fate past t) ≤ place (fate past s)

-- A hart that has ended or stopped has nothing on its way.
abbrev pub LeavesNothing : Type 0
LeavesNothing = (setup : Setup) (past : List Event) → is_legal setup past → (h s : ℕ)
    → is_going past h ≡ false → is_of past h s ≡ true
    → is_live (fate past s) ≡ false

-- ---- Sources

-- The writer that an instruction reads from, and the register that it finds it in, stay while the
-- reader is in flight.
abbrev pub SourcesStay : Type 0
SourcesStay = (setup : Setup) (past : List Event) → is_legal setup past → (e : Event)
    → is_allowed setup past e → (h r s : ℕ)
    → is_of past h s ≡ true → is_in_flight (fate past s) ≡ true
    → is_in_flight (fate (e ∷ past) s) ≡ true
    → (source (e ∷ past) h r s ≡ source past h r s)
    × (source_register (e ∷ past) h r s ≡ source_register past h r s)

-- An older instruction in flight has the register.
pub record IsOlderInFlight (past : List Event) (s p : ℕ) : Type 0 where
  pub one : ℕ
  pub older : one < s
  pub flies : is_in_flight (fate past one) ≡ true
  pub names : phys past one ≡ Some p

-- The register of a source of one in flight is the committed one, or that of an older one there.
abbrev pub SourcesAreClaimed : Type 0
SourcesAreClaimed = (setup : Setup) (past : List Event) → is_legal setup past → (h r s : ℕ)
    → 1 ≤ r → r < 32 → is_of past h s ≡ true
    → is_in_flight (fate past s) ≡ true
    → (source_register past h r s ≡ committed past h r)
    ⊎ IsOlderInFlight past s (source_register past h r s)

-- Its number, once there, stays.
abbrev pub ValuesStay : Type 0
ValuesStay = (setup : Setup) (past : List Event) → is_legal setup past → (e : Event)
    → is_allowed setup past e → (h r s v : ℕ)
    → 1 ≤ r → r < 32 → is_of past h s ≡ true → is_in_flight (fate past s) ≡ true
    → is_in_flight (fate (e ∷ past) s) ≡ true
    → value setup past (source_register past h r s) ≡ Some v
    → value setup (e ∷ past) (source_register (e ∷ past) h r s) ≡ Some v

-- ---- Claims

-- No physical register is claimed twice.
abbrev pub ClaimedOnce : Type 0
ClaimedOnce = (setup : Setup) (past : List Event) → is_legal setup past → (p : ℕ)
    → claims setup past p ≤ 1

-- The register of an instruction in flight was given to nobody since.
abbrev pub FlightsHold : Type 0
FlightsHold = (setup : Setup) (past : List Event) → is_legal setup past → (s p : ℕ)
    → is_in_flight (fate past s) ≡ true
    → phys past s ≡ Some p → holder past p ≡ Some s

-- A committed register was last given to the instruction that committed it, or to nobody where none
-- has.
abbrev pub CommittedHold : Type 0
CommittedHold = (setup : Setup) (past : List Event) → is_legal setup past → (h r : ℕ)
    → h < setup.harts → 1 ≤ r → r < 32
    → holder past (committed past h r) ≡ committer past h r

-- ---- Results

-- A completed instruction said what the rules compute of what its sources hold, with some number
-- for what a load saw; and this is what its register holds.
pub record SaysTheRules (setup : Setup) (past : List Event) (s : ℕ) (f : Fetched) : Type 0 where
  pub ready : is_ready setup past s ≡ true
  pub look : ℕ
  pub outcome : Outcome
  pub said : completion past s ≡ Some outcome
  pub outcome_is :
      outcome
      ≡ outcome_of (op_of_fetched (Some f))
      (computed_on setup (op_of_fetched (Some f)) f.pc (or_zero (reads setup first_source past s))
      (or_zero (reads setup second_source past s)))
      (Some look)
  pub holds : result_of past s ≡ outcome.value

abbrev pub ResultsAreRules : Type 0
ResultsAreRules = (setup : Setup) (past : List Event) → is_legal setup past
    → (s : ℕ) (f : Fetched) → is (fate past s) Completed ≡ true
    → fetching past s ≡ Some f → SaysTheRules setup past s f
