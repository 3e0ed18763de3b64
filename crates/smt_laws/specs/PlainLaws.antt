-- What the plain machine is, in words of its own: laws of its steps and of its runs.
use Rattle.std.specs.Prelude.{◌≡◌, ◌≢◌, ◌⊎◌, ℕ, ◌+◌, ◌*◌, ◌/◌, ◌%◌, ◌^◌, ◌<◌, ◌≤◌, Bool, true}
use Rattle.std.specs.Prelude.{false, List, ◌∷◌, Some, None}
use Rattle.events.specs.{declared.effect.Effect.Effect, declared.effect.Record.Record}
use Rattle.events.specs.{declared.effect.Written.Written}
use Rattle.smt_model.specs.{Setup.Setup, Kinds.Conditional, Kinds.kind_of, Exec.Computed}
use Rattle.smt_model.specs.{Nexts.is_last, Reservations.holds_word, Reservations.word_of_address}
use Rattle.smt_model.specs.{Bytes.write_of}
use Rattle.smt_model.specs.Plain.{Plain, Run, run, step, read_register, op_at_pc, computes}
use Rattle.smt_model.specs.Plain.{effect_at}

-- ---- x0

-- x0 reads as 0, and no run ever writes it.
pub record IsZero (ran : Run) (h : ℕ) : Type 0 where
  pub reads : read_register ran.state h 0 ≡ 0
  pub holds : ran.state.registers h 0 ≡ 0

-- It is so after every run, in each hart.
abbrev pub ReadsZero : Type 0
ReadsZero = (setup : Setup) (order : List ℕ) (ran : Run) → run setup order ≡ Some ran → (h : ℕ)
    → IsZero ran h

-- ---- A step is of one hart

-- Hart g's own state is the same, but for its reservation, which may have ended.
pub record IsUntouched (before after : Plain) (g : ℕ) : Type 0 where
  pub registers : (r : ℕ) → after.registers g r ≡ before.registers g r
  pub pc : after.pcs g ≡ before.pcs g
  pub status : after.statuses g ≡ before.statuses g
  pub reserved : (after.reserved g ≡ before.reserved g) ⊎ (after.reserved g ≡ None)

-- A step of hart h leaves all other harts so.
abbrev pub StepsAlone : Type 0
StepsAlone = (setup : Setup) (h : ℕ) (before after : Run)
    → step setup h (Some before) ≡ Some after → (g : ℕ) → g ≢ h
    → IsUntouched before.state after.state g

-- ---- Memory

-- The bytes of a write are those of its number, the lowest first, and no other byte changes.
pub record IsStored (w : Written) (before after : ℕ → ℕ) : Type 0 where
  pub inside : (i : ℕ) → i < w.n → after (w.addr + i) ≡ w.datum / 2 ^ (8 * i) % 2 ^ 8
  pub outside : (a : ℕ) → (a < w.addr) ⊎ (w.addr + w.n ≤ a) → after a ≡ before a

-- What a record says was written is what changed in memory.
pub record ChangesAsSaid (said : Record) (before after : ℕ → ℕ) : Type 0 where
  pub none : said.effect.write ≡ None → (a : ℕ) → after a ≡ before a
  pub some : (w : Written) → said.effect.write ≡ Some w → IsStored w before after

-- A step leaves one record, of its hart, and memory changes as the record says.
pub record IsRecorded (h : ℕ) (before after : Run) : Type 0 where
  pub said : Record
  pub hart : said.hart ≡ h
  pub records : after.records ≡ said ∷ before.records
  pub changes : ChangesAsSaid said before.state.bytes after.state.bytes

abbrev pub WritesAsSaid : Type 0
WritesAsSaid = (setup : Setup) (h : ℕ) (before after : Run)
    → step setup h (Some before) ≡ Some after → IsRecorded h before after

-- ---- Reservations

-- What a store-conditional that goes on does, by what it computed and whether its hart holds a
-- reservation on its word: it writes the word where the hart does, and else writes nothing, so that
-- memory stays.
pub record IsConditional (c : Computed) (held : Bool) (x : Effect)
    (before after : ℕ → ℕ) : Type 0 where
  pub stores : held ≡ true → x.write ≡ Some (write_of c.addr 4 c.datum)
  pub fails : held ≡ false → (x.write ≡ None) × ((a : ℕ) → after a ≡ before a)

abbrev pub StoresWhereHeld : Type 0
StoresWhereHeld = (setup : Setup) (h : ℕ) (before after : Run)
    → step setup h (Some before) ≡ Some after
    → kind_of (op_at_pc setup before.state h) ≡ Conditional
    → is_last (effect_at setup before.state h).next ≡ false
    → IsConditional (computes setup before.state h)
    (holds_word (before.state.reserved h) (computes setup before.state h).addr)
    (effect_at setup before.state h) before.state.bytes after.state.bytes

-- What ends or stops its hart writes nothing, whatever it is.
abbrev pub StopsWithoutWriting : Type 0
StopsWithoutWriting = (setup : Setup) (h : ℕ) (before after : Run)
    → step setup h (Some before) ≡ Some after
    → is_last (effect_at setup before.state h).next ≡ true
    → ((effect_at setup before.state h).write ≡ None)
    × ((a : ℕ) → after.state.bytes a ≡ before.state.bytes a)

-- After a write no hart holds a reservation on its word.
abbrev pub EndsReservations : Type 0
EndsReservations = (setup : Setup) (h : ℕ) (before after : Run)
    → step setup h (Some before) ≡ Some after → (w : Written)
    → (effect_at setup before.state h).write ≡ Some w → (g addr : ℕ)
    → after.state.reserved g ≡ Some addr
    → word_of_address addr ≢ word_of_address w.addr
