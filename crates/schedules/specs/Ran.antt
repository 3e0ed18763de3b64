-- The turns of an order, and what its run leaves.
use Rattle.std.specs.Prelude.{◌≡◌, ℕ, Bool, true, false, if◌then◌else◌, List, [], ◌∷◌, Some, map}
use Rattle.std.specs.Prelude.{reverse}
use Rattle.elf_image.specs.Image.{code_writable}
use Rattle.smt_model.specs.{Setup.Setup, Plain.Run, Plain.run}
use Rattle.smt_laws.specs.Scripts.{turns_of}
use Rattle.smt_model.specs.declared.turn.Turn.{Turn}
use Rattle.schedules.specs.declared.running.Ran.{Ran}

abbrev pub whole_turn : ℕ → Turn
whole_turn h = record { hart = h; fetches = true }

-- The turns of an order, the newest first: those of its run where the code may be written, and else
-- one for each word.
abbrev pub turns_for : Setup → List ℕ → List Turn
turns_for setup order =
    if code_writable setup.image then turns_of setup order else map whole_turn order

-- The turns of one step, the oldest first: one more where its word was stale.
abbrev pub step_turns : Bool → Bool → ℕ → List Turn
step_turns false fetches h = record { hart = h; fetches = fetches } ∷ []
step_turns true fetches h = whole_turn h ∷ record { hart = h; fetches = fetches } ∷ []

-- The plain machine runs the order, and these are its records and its turns. All have the oldest
-- first.
pub record HasTurns (setup : Setup) (order : List ℕ) (left : Ran) : Type 0 where
  pub ran : Run
  pub runs : run setup (reverse order) ≡ Some ran
  pub records : left.records.items ≡ reverse ran.records
  pub turns : left.turns.items ≡ reverse (turns_for setup (reverse order))
