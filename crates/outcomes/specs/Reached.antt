-- States of the plain machine to which orders of harts lead, counted.
use Rattle.std.specs.Prelude.{◌≡◌, ℕ, List, AllPairs, Contains, Some, length}
use Rattle.smt_model.specs.{Setup.Setup, Plain.Plain, Plain.start}
use Rattle.outcome_laws.specs.Paths.{path}

-- Two states are one: each register, pc and status of each hart, each reservation, each byte of memory and the output
-- are the same.
pub record IsSameState (s t : Plain) : Type 0 where
  pub registers : (h r : ℕ) → s.registers h r ≡ t.registers h r
  pub pcs : (h : ℕ) → s.pcs h ≡ t.pcs h
  pub statuses : (h : ℕ) → s.statuses h ≡ t.statuses h
  pub reserved : (h : ℕ) → s.reserved h ≡ t.reserved h
  pub bytes : (a : ℕ) → s.bytes a ≡ t.bytes a
  pub output : s.output ≡ t.output

-- Some order leads from the start to each of these states, and no two of them are one.
pub record AreReached (setup : Setup) (states : List Plain) : Type 0 where
  pub different : AllPairs (λ s t. IsSameState s t → ⊥) states
  pub reached : (s : Plain) → Contains states s → (order : List ℕ) × (path setup order (start setup) ≡ Some s)

-- There are so many.
abbrev pub ReachesMany : Setup → ℕ → Type 0
ReachesMany setup n = (states : List Plain) × AreReached setup states × (length states ≡ n)
