-- What a core replies to asks; and the script of an order of harts: asks to which the replies are
-- the run in this order, whatever the program.
use Rattle.std.specs.Prelude.{◌≡◌, ◌⊎◌, ℕ, zero, suc, true, List, [], ◌∷◌, filter, length, Option}
use Rattle.std.specs.Prelude.{Some, None, is_some, slice_get, option_and_then, Bool, false, not}
use Rattle.std.specs.Prelude.{◌==◌, if◌then◌else◌}
use Rattle.elf_image.specs.Image.{code_writable}
use Rattle.rv_instr.specs.{Registers.same_unit, declared.op.UnitKind.UnitKind}
use Rattle.rv_instr.specs.declared.op.UnitKind.TheVariants.{Alu, Mul, Mem}
use Rattle.events.specs.declared.event.Event.{Event}
use Rattle.smt_model.specs.{Basics.holds_of, Basics.first, Basics.below, Basics.same_number}
use Rattle.smt_model.specs.{Setup.Setup, Plain.word_at_pc, Plain.is_going_status}
use Rattle.events.specs.declared.role.Role.{Role}
use Rattle.smt_model.specs.{Setup.unit_of_role, Plain.Run, Plain.run}
use Rattle.smt_model.specs.Rules.{refused, is_allowed}
use Rattle.smt_model.specs.Asks.{Ask, AskFetch, AskDecode, AskRename, AskIssue, AskComplete}
use Rattle.smt_model.specs.Asks.{AskRetire, answers}
use Rattle.smt_laws.specs.Shown.{Predictor, IsDecided, CanShow, HasEachKind, IsShown}
use Rattle.smt_model.specs.declared.turn.Turn.{Turn}

-- ---- Replies

-- The history grows by an allowed event that answers the ask, decided as the predictor says.
pub record IsAnswered (setup : Setup) (predict : Predictor) (ask : Ask) (past now : List Event)
    : Type 0 where
  pub event : Event
  pub allowed : is_allowed setup past event
  pub suits : answers ask past event ≡ true
  pub decided : IsDecided setup predict past event
  pub grown : now ≡ event ∷ past

-- The history stays, where no event that answers the ask is allowed.
pub record IsUnanswered (setup : Setup) (ask : Ask) (past now : List Event) : Type 0 where
  pub none : (e : Event) → answers ask past e ≡ true → is_some (refused setup past e) ≡ true
  pub same : now ≡ past

abbrev pub IsReply : Setup → Predictor → Ask → List Event → List Event → Type 0
IsReply setup predict ask past now =
    IsAnswered setup predict ask past now ⊎ IsUnanswered setup ask past now

-- The history that a core has after these asks, the newest first.
abbrev pub HasReplied : Setup → Predictor → List Ask → List Event → Type 0
HasReplied setup predict [] now = now ≡ []
HasReplied setup predict (ask ∷ asks) now =
    (past : List Event) × (HasReplied setup predict asks past × IsReply setup predict ask past now)

-- ---- The script of an order

-- The first actor that is a unit of this kind.
abbrev pub unit_of_kind : List Role → UnitKind → Option ℕ
unit_of_kind roles kind =
    first (filter (λ k. holds_of (λ u. same_unit u kind)
    (option_and_then unit_of_role (slice_get roles k))) (below (length roles)))

-- An actor issues and completes, after some asks.
abbrev pub with_unit : Option ℕ → List Ask → List Ask
with_unit None asks = asks
with_unit (Some k) asks = AskComplete k ∷ AskIssue k ∷ asks

-- The last turn of hart h, after some asks: its oldest instruction is decoded, renamed, offered to
-- a unit of each kind, and retired.
abbrev pub last_asks : List Role → ℕ → List Ask → List Ask
last_asks roles h asks =
    AskRetire 0 h
    ∷ with_unit (unit_of_kind roles Mem) (with_unit (unit_of_kind roles Mul)
    (with_unit (unit_of_kind roles Alu) (AskRename 0 h ∷ AskDecode 0 h ∷ asks)))

-- A turn: behind this one more is fetched.
abbrev pub turn_asks : List Role → ℕ → List Ask → List Ask
turn_asks roles h asks = AskFetch 0 ∷ last_asks roles h asks

abbrev pub fetch_asks : ℕ → List Ask
fetch_asks zero = []
fetch_asks (suc n) = AskFetch 0 ∷ fetch_asks n

-- A fetch for each hart, then the turns in order. It knows the number of harts, the roles and the
-- order, and nothing of the program.
abbrev pub script : ℕ → List Role → List ℕ → List Ask
script harts roles [] = fetch_asks harts
script harts roles (h ∷ order) = turn_asks roles h (script harts roles order)

-- ---- The script of a run, where the code may be written

-- The word at hart h's pc after a run, and whether it goes.
abbrev pub word_after : Setup → Option Run → ℕ → Option ℕ
word_after setup None h = None
word_after setup (Some ran) h = word_at_pc setup ran.state h

abbrev pub goes_after : Option Run → ℕ → Bool
goes_after None h = false
goes_after (Some ran) h = is_going_status (ran.state.statuses h)

-- The word that hart h has fetched for its next step: the one that was at its pc behind its last
-- step, or at the start.
abbrev pub waiting_word : Setup → List ℕ → ℕ → Option ℕ
waiting_word setup [] h = word_after setup (run setup []) h
waiting_word setup (g ∷ order) h =
    if g == h then word_after setup (run setup (g ∷ order)) h else waiting_word setup order h

-- Another word is there now: some step has written over it.
abbrev pub is_stale : Setup → List ℕ → ℕ → Bool
is_stale setup order h =
    not (same_number (waiting_word setup order h) (word_after setup (run setup order) h))

-- What is stale takes a turn of its own, in which it is refetched.
abbrev pub refetching : Bool → ℕ → List Turn → List Turn
refetching false h turns = turns
refetching true h turns = record { hart = h; fetches = true } ∷ turns

-- The turns of an order. Behind its last step a hart fetches no more: that would be a fetch for
-- another, which has its next instruction already.
abbrev pub turns_of : Setup → List ℕ → List Turn
turns_of setup [] = []
turns_of setup (h ∷ order) =
    record { hart = h; fetches = goes_after (run setup (h ∷ order)) h }
    ∷ refetching (is_stale setup order h) h (turns_of setup order)

abbrev pub asks_in_turn : List Role → Turn → List Ask → List Ask
asks_in_turn roles t asks =
    if t.fetches then turn_asks roles t.hart asks else last_asks roles t.hart asks

-- A fetch for each hart, then these turns.
abbrev pub turns_script : ℕ → List Role → List Turn → List Ask
turns_script harts roles [] = fetch_asks harts
turns_script harts roles (t ∷ turns) = asks_in_turn roles t (turns_script harts roles turns)

-- ---- Laws

-- A history is all that a core can have after some asks.
abbrev pub RepliesAreOne : Type 0
RepliesAreOne = (setup : Setup) (predict : Predictor) (asks : List Ask) (one two : List Event)
    → HasReplied setup predict asks one → HasReplied setup predict asks two → one ≡ two

-- What a core has after the script of an order shows the run in this order, where the code may not
-- be written.
pub record IsShownByScript (setup : Setup) (predict : Predictor) (harts : List ℕ) (ran : Run)
    : Type 0 where
  pub shown : IsShown setup predict 6 harts ran.records
  pub replied : HasReplied setup predict (script setup.harts setup.roles harts) shown.past

abbrev pub ScriptsShowRuns : Type 0
ScriptsShowRuns = (setup : Setup) (predict : Predictor) (harts : List ℕ) (ran : Run)
    → code_writable setup.image ≡ false → run setup harts ≡ Some ran
    → CanShow setup ran.records → IsShownByScript setup predict harts ran

-- Whether or not the code may be written, what a core with a unit of each kind has after the script
-- of an order's turns shows the run.
pub record IsShownByTurns (setup : Setup) (predict : Predictor) (harts : List ℕ) (ran : Run)
    : Type 0 where
  pub shown : IsShown setup predict 12 harts ran.records
  pub replied :
      HasReplied setup predict (turns_script setup.harts setup.roles (turns_of setup harts))
      shown.past

abbrev pub TurnsShowRuns : Type 0
TurnsShowRuns = (setup : Setup) (predict : Predictor) (harts : List ℕ) (ran : Run)
    → HasEachKind setup → run setup harts ≡ Some ran
    → CanShow setup ran.records → IsShownByTurns setup predict harts ran
