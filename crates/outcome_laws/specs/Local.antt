-- Steps that come to the same whether they are made before or after whatever the other harts may do yet:
-- so a search may make them first. [Mazurkiewicz 1977: steps that commute; Godefroid 1996, "Partial-Order
-- Methods for the Verification of Concurrent Systems", and Peled 1993, "All from one, one for all": such a
-- step alone is explored, if nobody looks at what it changes]
use Rattle.std.specs.Prelude.{◌≡◌, ◌≢◌, ℕ, Bool, true, false, not, ◌==◌, ◌&&◌, ◌||◌, if◌then◌else◌}
use Rattle.std.specs.Prelude.{List, [], ◌∷◌, ◌++◌, is_some}
use Rattle.std.specs.List.{list_all}
use Rattle.smt_model.specs.{Setup.Setup, Exec.Computed, Basics.below, Reservations.word_of_address}
use Rattle.smt_model.specs.{Reservations.holds_word, Nexts.is_last, Words.Op, Words.Next, Words.Pc}
use Rattle.smt_model.specs.{Words.ProgramImage}
use Rattle.smt_model.specs.Kinds.{Kind, Computing, Loading, Storing, Reserving, Conditional, Atomic, kind_of}
use Rattle.smt_model.specs.Kinds.{touches_memory}
use Rattle.smt_model.specs.Plain.{Plain, op_at_pc, computes, is_going_status}
use Rattle.outcome_laws.specs.Paths.{can_step, stepped}
use Rattle.outcome_laws.specs.Tables.{Tables, IsTables, AllowsAll, IsAsCoded, may_go, may_change, is_conditional}
use Rattle.outcome_laws.specs.Tables.{goes_anywhere}

-- ---- What an instruction uses

-- Something that harts share, by its address: an aligned word; or the output, which is at none.
pub record Use : Type 0 where
  pub what : ℕ
  pub writes : Bool

-- The output's address: no word has it.
abbrev pub the_output : ℕ
the_output = 1

abbrev pub reading : ℕ → Use
reading what = record { what = what; writes = false }

abbrev pub writing : ℕ → Use
writing what = record { what = what; writes = true }

-- By kind. LR reads its word; SC counts as writing whether or not its word is reserved, so that what it
-- uses is its own hart's matter.
abbrev pub accesses_by : Kind → Computed → List Use
accesses_by Computing c = if is_some c.out then writing the_output ∷ [] else []
accesses_by Loading c = reading (word_of_address c.addr) ∷ []
accesses_by Storing c = writing (word_of_address c.addr) ∷ []
accesses_by Reserving c = reading (word_of_address c.addr) ∷ []
accesses_by Conditional c = writing (word_of_address c.addr) ∷ []
accesses_by Atomic c = writing (word_of_address c.addr) ∷ []

-- What an instruction uses of which this is computed. One that ends or stops its hart uses nothing.
abbrev pub accesses : Op → Computed → List Use
accesses op c = if is_last c.next then [] else accesses_by (kind_of op) c

-- What its fetch uses: the word at its pc, where the code may change.
abbrev pub fetches : ProgramImage → Tables → ℕ → List Use
fetches image tables pc = if may_change image tables pc then reading (word_of_address pc) ∷ [] else []

-- All that the next step of hart h uses.
abbrev pub uses : Setup → Tables → ℕ → Plain → List Use
uses setup tables h s =
    fetches setup.image tables (s.pcs h) ++ accesses (op_at_pc setup s h) (computes setup s h)

-- ---- A step that the tables know

-- A step of an instruction at `pc` goes on only where it may; if it is the last it goes nowhere.
abbrev pub goes_on_within : ProgramImage → Tables → Op → ℕ → Next → Bool
goes_on_within image tables op pc (Pc to) = may_go (may_change image tables) tables.targets op pc to
goes_on_within image tables op pc next = true

-- The next step of hart h fits the tables: they say that it may use what it uses, and go on where it does.
abbrev pub fits : Setup → Tables → ℕ → Plain → Bool
fits setup tables h s =
    list_all (λ (u : Use). tables.ahead h (s.pcs h) u.what u.writes) (uses setup tables h s)
    && goes_on_within setup.image tables (op_at_pc setup s h) (s.pcs h) (computes setup s h).next

-- ---- A step that no other hart sees, and that sees none

-- No hart but h may yet write what it reads, or touch what it writes; one that doesn't go won't.
abbrev pub apart_from : Tables → ℕ → Plain → ℕ → Use → Bool
apart_from tables h s g u =
    g == h || not (is_going_status (s.statuses g)) || not (tables.ahead g (s.pcs g) u.what (not u.writes))

-- Such a use, which writes no word that is looked at in each state.
abbrev pub is_apart : Setup → Tables → ℕ → Plain → Use → Bool
is_apart setup tables h s u =
    not (u.writes && tables.seen u.what)
    && list_all (λ g. apart_from tables h s g u) (below setup.harts)

-- SC without a reservation of its word: it reads nothing and writes nothing, and no step of another hart
-- brings its reservation back.
abbrev pub lacks_reservation : Setup → ℕ → Plain → Bool
lacks_reservation setup h s =
    is_conditional (kind_of (op_at_pc setup s h))
    && not (holds_word (s.reserved h) (computes setup s h).addr)

-- The next step of hart h fits, its fetch is apart, and so is what it accesses, or it is an SC that fails.
abbrev pub is_local : Setup → Tables → ℕ → Plain → Bool
is_local setup tables h s =
    fits setup tables h s
    && (list_all (is_apart setup tables h s) (fetches setup.image tables (s.pcs h))
    && (list_all (is_apart setup tables h s) (accesses (op_at_pc setup s h) (computes setup s h))
    || lacks_reservation setup h s))

-- ---- The laws

-- Whether a step fits is its own hart's matter: where it fits behind a local step of another hart, it fits
-- before it.
abbrev pub FitsOnItsOwn : Type 0
FitsOnItsOwn = (setup : Setup) (tables : Tables) → IsTables setup.image tables
    → (g h : ℕ) (s : Plain) → g ≢ h → IsAsCoded setup tables s
    → can_step setup g s ≡ true → can_step setup h s ≡ true
    → is_local setup tables g s ≡ true → fits setup tables h (stepped setup g s) ≡ true
    → fits setup tables h s ≡ true

-- The steps of two harts, of which that of g is local, come to the same in both orders, and that of g is
-- local in both.
pub record Commute (setup : Setup) (tables : Tables) (g h : ℕ) (s : Plain) : Type 0 where
  pub same : stepped setup h (stepped setup g s) ≡ stepped setup g (stepped setup h s)
  pub local : is_local setup tables g (stepped setup h s) ≡ true

-- A local step and any step that fits of another hart do.
abbrev pub LocalStepsCommute : Type 0
LocalStepsCommute = (setup : Setup) (tables : Tables) → IsTables setup.image tables
    → (g h : ℕ) (s : Plain) → g ≢ h → IsAsCoded setup tables s
    → can_step setup g s ≡ true → can_step setup h s ≡ true
    → is_local setup tables g s ≡ true → fits setup tables h s ≡ true
    → Commute setup tables g h s

-- An instruction of which this is computed ends or stops its hart, or neither touches memory nor puts a
-- byte out.
abbrev pub is_silent : Op → Computed → Bool
is_silent op c = is_last c.next || (not (touches_memory (kind_of op)) && not (is_some c.out))

-- Where the code may not change, such a step, and SC without a reservation, is local in any tables that it
-- fits, whatever the other harts may do.
abbrev pub SilentStepsAreLocal : Type 0
SilentStepsAreLocal = (setup : Setup) (tables : Tables) (h : ℕ) (s : Plain)
    → may_change setup.image tables (s.pcs h) ≡ false
    → (is_silent (op_at_pc setup s h) (computes setup s h) || lacks_reservation setup h s) ≡ true
    → fits setup tables h s ≡ true → is_local setup tables h s ≡ true

-- Every step fits tables that allow all.
abbrev pub EveryStepFits : Type 0
EveryStepFits = (setup : Setup) (tables : Tables) → AllowsAll tables → (h : ℕ) (s : Plain)
    → fits setup tables h s ≡ true

-- JALR at `pc` goes on only where the table of targets says; every other instruction, and one that is the last, does so
-- whatever it says.
abbrev pub keeps_to : (ℕ → ℕ → Bool) → Op → ℕ → Next → Bool
keeps_to targets op pc (Pc to) = not (goes_anywhere op) || targets pc to
keeps_to targets op pc next = true

-- Where the code may not change, and each hart may touch anything, that is whether a step fits.
abbrev pub FitsByItsTarget : Type 0
FitsByItsTarget = (setup : Setup) (tables : Tables) (h : ℕ) (s : Plain)
    → may_change setup.image tables (s.pcs h) ≡ false
    → ((g pc what : ℕ) (writes : Bool) → tables.ahead g pc what writes ≡ true)
    → fits setup tables h s
    ≡ keeps_to tables.targets (op_at_pc setup s h) (s.pcs h) (computes setup s h).next
