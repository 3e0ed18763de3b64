-- States that differ only in what doesn't matter any more: registers that nobody reads, and reservations
-- that nobody uses. [Aho, Lam, Sethi and Ullman, "Compilers", section 9.2.5: live-variable analysis]
use Rattle.std.specs.Prelude.{◌≡◌, ◌≢◌, ℕ, Bool, true, ◌&&◌, ◌||◌}
use Rattle.smt_model.specs.{Setup.Setup}
use Rattle.smt_model.specs.Plain.{Plain, is_going_status}
use Rattle.outcome_laws.specs.Paths.{can_step, stepped}
use Rattle.outcome_laws.specs.{Tables.Tables, Tables.IsTables, Tables.IsAsCoded, Local.fits, Local.is_local}

-- What a register of a hart holds still matters: it is watched, or the hart goes and may read it.
abbrev pub matters : (ℕ → Bool) → (ℕ → ℕ → Bool) → Plain → ℕ → ℕ → Bool
matters watched live s h r = watched r || (is_going_status (s.statuses h) && live (s.pcs h) r)

-- A hart's reservation still matters: the hart goes and may use it.
abbrev pub reservation_matters : (ℕ → Bool) → Plain → ℕ → Bool
reservation_matters kept s h = is_going_status (s.statuses h) && kept (s.pcs h)

-- Two states are alike: they differ in registers and reservations alone that don't matter. x0 is none.
pub record AreAlike (watched : ℕ → Bool) (tables : Tables) (s t : Plain) : Type 0 where
  pub pcs : (h : ℕ) → s.pcs h ≡ t.pcs h
  pub statuses : (h : ℕ) → s.statuses h ≡ t.statuses h
  pub reserved : (h : ℕ) → reservation_matters tables.kept s h ≡ true → s.reserved h ≡ t.reserved h
  pub bytes : (a : ℕ) → s.bytes a ≡ t.bytes a
  pub output : s.output ≡ t.output
  pub registers : (h r : ℕ) → r ≢ 0 → matters watched tables.live s h r ≡ true
      → s.registers h r ≡ t.registers h r

-- Alike states make alike steps: the same harts can step, the same steps fit and are local, and the states
-- afterwards are alike.
pub record StepAlike (setup : Setup) (watched : ℕ → Bool) (tables : Tables) (h : ℕ) (s t : Plain) : Type 0 where
  pub can : can_step setup h t ≡ can_step setup h s
  pub fits : fits setup tables h t ≡ fits setup tables h s
  pub local : is_local setup tables h t ≡ is_local setup tables h s
  pub alike : AreAlike watched tables (stepped setup h s) (stepped setup h t)

-- So it is of a step that fits: of another one the tables don't know where it goes on.
abbrev pub AlikeStatesStepAlike : Type 0
AlikeStatesStepAlike = (setup : Setup) (watched : ℕ → Bool) (tables : Tables) → IsTables setup.image tables
    → (s t : Plain) → IsAsCoded setup tables s → AreAlike watched tables s t → (h : ℕ) → can_step setup h s ≡ true
    → fits setup tables h s ≡ true
    → StepAlike setup watched tables h s t
