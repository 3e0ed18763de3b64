-- What is left of a core when all asks of a script's words were made.
use Rattle.std.specs.Prelude.{◌≡◌, ℕ, List, Option, IsTrue, ◌↔◌, length, sum}
use Rattle.text_fields.specs.Printing.{Prints}
use Rattle.smt_model.specs.Setup.{Setup}
use Rattle.core_state.specs.View.{CoreView}
use Rattle.smt_core.specs.declared.finished.Finished.{Finished}
use Rattle.smt_core.specs.{Counts.AreCounts, Shown.Shown}
use Rattle.scripts.specs.declared.actions.ScriptWord.{ScriptWord}
use Rattle.scripts.specs.Session.{HasGuessed, HaveAsked, HaveCounted}

-- A core whose actors held nothing was asked these words, and nothing else; its lines were printed; and this is left of
-- it. No pass has missed an event, and each fetch went on where the predictor guessed.
pub record HasRunScript {P : Type 0} (predicts : P → ℕ → ℕ → ℕ → ℕ → P → Type 0) (before after : P)
    (words : List ScriptWord) (named : Setup) (core : CoreView) (was now : Option (List ℕ)) (finished : Finished)
    : Type 0 where
  pub setup : finished.core.setup ≡ core.setup
  pub limit : finished.core.limit ≡ core.limit
  pub told : IsTrue finished.told
  pub own : IsTrue finished.own ↔ (core.setup ≡ named)
  pub counts : AreCounts finished.core.past finished.counts
  pub counted : sum finished.counts ≡ length finished.core.past
  pub shown : Shown finished.core
  pub asked : Prints was now (HaveAsked words core finished.core)
  pub idle : Prints was now (HaveCounted words core finished.core finished.idle)
  pub guessed : HasGuessed predicts core.past finished.core.past before after
