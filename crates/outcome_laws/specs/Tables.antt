-- What a search knows ahead of each step, in tables by pc: which registers may be read yet, whether a
-- reservation may be used yet, where a jump by a register goes, which words may be touched yet, and which
-- are never written. Each column is checked along the code, once, when it is made; that a step does nothing
-- but what the tables say is checked of each step that the search makes. [Aho, Lam, Sethi and Ullman,
-- "Compilers", section 9.2: data-flow analysis backwards; Godefroid 1996, "Partial-Order Methods for the
-- Verification of Concurrent Systems": what a process may do from now on; Peled 1993, "All from one, one
-- for all": which steps are seen]
use Rattle.std.specs.Prelude.{◌≡◌, ◌≢◌, ℕ, Bool, true, false, ◌==◌, ◌&&◌, ◌||◌, if◌then◌else◌}
use Rattle.rv_word.specs.Word.{sum_of}
use Rattle.rv_instr.specs.declared.instr.Instr.TheVariants as instr
use Rattle.elf_image.specs.Image.{code_word, word_now, code_writable}
use Rattle.smt_model.specs.Words.{Op, Known, Instr, ProgramImage, op_of_word}
use Rattle.smt_model.specs.{Setup.Setup, Exec.next_pc, Exec.extended, Plain.Plain, Plain.start}
use Rattle.smt_model.specs.Kinds.{Kind, Reserving, Conditional, kind_of, destination, first_source, second_source}
use Rattle.outcome_laws.specs.Paths.{HasItsCode}

-- ---- Where an instruction goes on

-- What the image has at a pc.
abbrev pub op_at : ProgramImage → ℕ → Op
op_at image pc = op_of_word (code_word image pc)

-- An instruction at `pc` may go on at `to`: a jump at its target, a branch at its target or behind it,
-- JALR anywhere, every other one behind it.
abbrev pub may_follow_of : Instr → ℕ → ℕ → Bool
may_follow_of (instr.Jal rd offset) pc to = to == sum_of pc (extended offset)
may_follow_of (instr.Jalr rd rs1 offset) pc to = true
may_follow_of (instr.Branch op rs1 rs2 offset) pc to =
    to == sum_of pc (extended offset) || to == next_pc pc
may_follow_of i pc to = to == next_pc pc

unfoldable pub may_follow : Op → ℕ → ℕ → Bool
may_follow (Known i) pc to = may_follow_of i pc to
may_follow _ pc to = false

-- It is JALR.
unfoldable pub goes_anywhere : Op → Bool
goes_anywhere (Known (instr.Jalr rd rs1 offset)) = true
goes_anywhere _ = false

-- With a table of targets: JALR goes on where the table says, and where the code may change so does
-- whatever stands at a pc.
abbrev pub may_go : (ℕ → Bool) → (ℕ → ℕ → Bool) → Op → ℕ → ℕ → Bool
may_go changes targets op pc to =
    if changes pc || goes_anywhere op then targets pc to else may_follow op pc to

-- ---- The columns, for an image of which the code may change at some pcs

abbrev pub reads_register : Op → ℕ → Bool
reads_register op r = r == first_source op || r == second_source op

-- A table of live registers is good: a register is live where it is read, and where it is live behind
-- and not written before. Where the code may change, all are. x0 is none. [Aho and others, 9.2.5: live
-- variables]
pub record IsLiveTable (image : ProgramImage) (changes : ℕ → Bool) (targets live : ℕ → ℕ → Bool) : Type 0 where
  pub reads : (pc r : ℕ) → r ≢ 0 → reads_register (op_at image pc) r ≡ true → live pc r ≡ true
  pub stays : (pc to r : ℕ) → r ≢ 0 → may_go changes targets (op_at image pc) pc to ≡ true → live to r ≡ true
      → (r == destination (op_at image pc)) ≡ false → live pc r ≡ true
  pub all : (pc r : ℕ) → r ≢ 0 → changes pc ≡ true → live pc r ≡ true

-- It is SC; it is LR or SC, which leave nothing of the reservation that they find.
abbrev pub is_conditional : Kind → Bool
is_conditional Conditional = true
is_conditional _ = false

abbrev pub replaces_reservation : Kind → Bool
replaces_reservation Reserving = true
replaces_reservation Conditional = true
replaces_reservation _ = false

-- A table of reservations that are kept is good, as one of live registers is: SC uses a reservation, and
-- LR and SC leave nothing of an earlier one.
pub record IsKeptTable (image : ProgramImage) (changes : ℕ → Bool) (targets : ℕ → ℕ → Bool) (kept : ℕ → Bool)
    : Type 0 where
  pub used : (pc : ℕ) → is_conditional (kind_of (op_at image pc)) ≡ true → kept pc ≡ true
  pub stays : (pc to : ℕ) → may_go changes targets (op_at image pc) pc to ≡ true → kept to ≡ true
      → replaces_reservation (kind_of (op_at image pc)) ≡ false → kept pc ≡ true
  pub all : (pc : ℕ) → changes pc ≡ true → kept pc ≡ true

-- A table of what harts may touch yet is good: a hart touches at a pc what it touches behind, and touches
-- what it writes.
pub record IsAheadTable (image : ProgramImage) (changes : ℕ → Bool) (targets : ℕ → ℕ → Bool)
    (ahead : ℕ → ℕ → ℕ → Bool → Bool) : Type 0 where
  pub stays : (h pc to what : ℕ) (writes : Bool) → may_go changes targets (op_at image pc) pc to ≡ true
      → ahead h to what writes ≡ true → ahead h pc what writes ≡ true
  pub touches : (h pc what : ℕ) → ahead h pc what true ≡ true → ahead h pc what false ≡ true

-- ---- All of them

-- live: at a pc a register may be read yet. kept: at a pc its hart's reservation may be used yet. targets: a
-- JALR at a pc may go on at another. ahead: a hart at a pc may yet touch something, or (true) write it: an
-- aligned word, or the output. rewritten: some hart may write to this word. seen: what this word holds is
-- looked at in each state, not at the end alone.
pub record Tables : Type 0 where
  pub live : ℕ → ℕ → Bool
  pub kept : ℕ → Bool
  pub targets : ℕ → ℕ → Bool
  pub ahead : ℕ → ℕ → ℕ → Bool → Bool
  pub rewritten : ℕ → Bool
  pub seen : ℕ → Bool

-- The code may change at a pc: it may be written at all, and some hart may write this word.
abbrev pub may_change : ProgramImage → Tables → ℕ → Bool
may_change image tables pc = tables.rewritten pc && code_writable image

-- What is checked of tables before a search. Of `targets` and `seen` nothing is: a search may have any.
pub record IsTables (image : ProgramImage) (tables : Tables) : Type 0 where
  pub live : IsLiveTable image (may_change image tables) tables.targets tables.live
  pub kept : IsKeptTable image (may_change image tables) tables.targets tables.kept
  pub ahead : IsAheadTable image (may_change image tables) tables.targets tables.ahead
  pub rewritten : (h pc word : ℕ) → tables.ahead h pc word true ≡ true → tables.rewritten word ≡ true

-- A search with such tables leaves no step out: JALR may go anywhere, and each hart may touch anything.
pub record AllowsAll (tables : Tables) : Type 0 where
  pub targets : (pc to : ℕ) → tables.targets pc to ≡ true
  pub ahead : (h pc what : ℕ) (writes : Bool) → tables.ahead h pc what writes ≡ true

-- Tables that know nothing but which registers are live: they allow all, each reservation matters, and each
-- word is looked at.
abbrev pub with_live_alone : (ℕ → ℕ → Bool) → Tables
with_live_alone live = record {
  live = live;
  kept = λ pc. true;
  targets = λ pc to. true;
  ahead = λ h pc what writes. true;
  rewritten = λ word. true;
  seen = λ word. true;
}

-- They are good if the table of live registers is.
pub record IsAllowing (image : ProgramImage) (tables : Tables) : Type 0 where
  pub tables_are : IsTables image tables
  pub allows : AllowsAll tables

abbrev pub LiveAloneIsTables : Type 0
LiveAloneIsTables = (image : ProgramImage) (live : ℕ → ℕ → Bool)
    → IsLiveTable image (λ pc. code_writable image) (λ pc to. true) live → IsAllowing image (with_live_alone live)

-- ---- Code that doesn't change

-- Where the code may not change, it is what the image has.
abbrev pub IsAsCoded : Setup → Tables → Plain → Type 0
IsAsCoded setup tables s = (pc : ℕ) → may_change setup.image tables pc ≡ false
    → word_now setup.image s.bytes pc ≡ code_word setup.image pc

-- So it is at the start; and if the code may not be written at all, or the tables say that any word may be,
-- it is so of a state of which it is known without tables.
abbrev pub StartsAsCoded : Type 0
StartsAsCoded = (setup : Setup) (tables : Tables) → IsAsCoded setup tables (start setup)

abbrev pub HoldsAsCoded : Type 0
HoldsAsCoded = (setup : Setup) (tables : Tables) (s : Plain)
    → ((pc : ℕ) → may_change setup.image tables pc ≡ code_writable setup.image)
    → HasItsCode setup s → IsAsCoded setup tables s
