-- An execution by its records alone, with no machine: each record, the newest first, is what its
-- instruction does to what the older ones left. A load gives the bytes that were written last
-- before it in this one order of all harts' instructions; the records of one hart follow its
-- program. [Lamport 1979, sequential consistency]
use Rattle.std.specs.Prelude.{◌≡◌, ℕ, ◌<◌, Bool, true, not, ◌==◌, ◌&&◌, if◌then◌else◌, List, []}
use Rattle.std.specs.Prelude.{◌∷◌, map, Option, Some, None}
use Rattle.elf_image.specs.Image.{byte_in, word_now}
use Rattle.rv_instr.specs.{Decode.op_of_word, declared.op.Op.Op}
use Rattle.events.specs.{declared.effect.Effect.Effect, declared.effect.Record.Record}
use Rattle.events.specs.{declared.event.Event.Event}
use Rattle.smt_model.specs.{Setup.Setup, Setup.first_number, Kinds.destination, Kinds.first_source}
use Rattle.smt_model.specs.{Kinds.second_source, Exec.Computed, Nexts.is_last, Nexts.pc_after}
use Rattle.smt_model.specs.{Faults.computed_on, Effects.effect_of, Bytes.read, Bytes.byte_after}
use Rattle.smt_model.specs.{Reservations.holds_word, Reservations.reservation_after, Plain.Run}
use Rattle.smt_model.specs.{Plain.run, Plain.register_after, Rules.is_legal, Account.records}

-- ---- What some records leave

abbrev pub op_of_record : Record → Op
op_of_record r = op_of_word r.word

-- Hart h goes: none of its records ends or stops it.
abbrev pub goes_by : List Record → ℕ → Bool
goes_by [] h = true
goes_by (r ∷ older) h = not ((h == r.hart) && is_last r.effect.next) && goes_by older h

-- Where hart h stands: where its last record goes on, or at the entry.
abbrev pub pc_by : Setup → List Record → ℕ → ℕ
pc_by setup [] h = setup.image.entry
pc_by setup (r ∷ older) h =
    if h == r.hart then pc_after r.effect.next (pc_by setup older h) else pc_by setup older h

-- The number in hart h's register q: that of its last record that gave q one, or the number of the
-- start.
abbrev pub number_by : Setup → List Record → ℕ → ℕ → ℕ
number_by setup [] h q = first_number setup.harts h q
number_by setup (r ∷ older) h q =
    if (h == r.hart) && (q == destination (op_of_record r))
    then register_after r.effect.value (number_by setup older h q)
    else number_by setup older h q

-- x0 reads as 0.
abbrev pub operand_by : Setup → List Record → ℕ → ℕ → ℕ
operand_by setup older h q = if q == 0 then 0 else number_by setup older h q

-- The byte at an address: that of the last record that wrote it, or the image's.
abbrev pub byte_by : Setup → List Record → ℕ → ℕ
byte_by setup [] a = byte_in setup.image a
byte_by setup (r ∷ older) a = byte_after r.effect.write a (byte_by setup older a)

-- What a record's instruction computes of the numbers that the older ones left.
abbrev pub computed_by : Setup → List Record → Record → Computed
computed_by setup older r =
    let op = op_of_record r in
    computed_on setup op r.pc (operand_by setup older r.hart (first_source op))
    (operand_by setup older r.hart (second_source op))

-- The word that hart h holds a reservation on, if any.
abbrev pub reserved_by : Setup → List Record → ℕ → Option ℕ
reserved_by setup [] h = None
reserved_by setup (r ∷ older) h =
    reservation_after (op_of_record r) (computed_by setup older r).addr r.effect (h == r.hart)
    (reserved_by setup older h)

-- Its effect on what the older ones left.
abbrev pub done_by : Setup → List Record → Record → Effect
done_by setup older r =
    let op = op_of_record r in
    let c = computed_by setup older r in
    effect_of op c (read op (byte_by setup older) c.addr)
    (holds_word (reserved_by setup older r.hart) c.addr)

-- ---- Executions

-- A record goes on from the older ones: its hart is there and goes, its pc is where that hart
-- stands, its word stands at this pc in what was written so far, and its effect is that of the word.
pub record GoesOn (setup : Setup) (older : List Record) (r : Record) : Type 0 where
  pub there : r.hart < setup.harts
  pub going : goes_by older r.hart ≡ true
  pub pc : r.pc ≡ pc_by setup older r.hart
  pub word : r.word ≡ word_now setup.image (byte_by setup older) r.pc
  pub effect : r.effect ≡ done_by setup older r

abbrev pub IsExecution : Setup → List Record → Type 0
IsExecution setup [] = Unit {0}
IsExecution setup (r ∷ older) = GoesOn setup older r × IsExecution setup older

-- ---- Laws

-- What every legal history retires is an execution.
abbrev pub RetiresAnExecution : Type 0
RetiresAnExecution = (setup : Setup) (past : List Event) → is_legal setup past
    → IsExecution setup (records past)

-- The plain machine has a run with these records.
pub record IsRun (setup : Setup) (all : List Record) : Type 0 where
  pub ran : Run
  pub runs : run setup (map (λ r. r.hart) all) ≡ Some ran
  pub records : ran.records ≡ all

-- The plain machine's runs leave executions, one record a step, and leave every execution.
abbrev pub RunsAreExecutions : Type 0
RunsAreExecutions = (setup : Setup) (order : List ℕ) (ran : Run) → run setup order ≡ Some ran
    → IsExecution setup ran.records × (map (λ r. r.hart) ran.records ≡ order)

abbrev pub ExecutionsAreRuns : Type 0
ExecutionsAreRuns = (setup : Setup) (all : List Record) → IsExecution setup all → IsRun setup all
