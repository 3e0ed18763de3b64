-- The lines of words that are kept at the prompt, oldest first, and the core that is asked all of
-- them. (This project's own choice.)
use Rattle.std.specs.Prelude.{◌≡◌, ℕ, List, map, All, Vec}
use Rattle.scripts.specs.{declared.actions.ScriptWord.ScriptWord, Script.IsInRange, Lines.words_in}
use Rattle.scripts.specs.Session.{HaveCounted, AreGuessed, unasked}
use Rattle.smt_model.specs.Setup.{Setup}
use Rattle.core_state.specs.View.{CoreView}
use Rattle.smt_core.specs.Shown.{Shown}

abbrev pub Kept : Type 0
Kept = List (List ScriptWord)

-- The lines of a session, as they are held; and that each of their words may be asked.
abbrev pub kept_in : {A : Type 0} → List (Vec ScriptWord A) → Kept
kept_in lines = map (λ line. line.items) lines

abbrev pub AreInRange : Kept → Type 0
AreInRange kept = All (λ word. IsInRange word.action) (words_in kept)

-- A core of this setup and limit, one of those that may be shown, has been asked the words of all
-- kept lines, one after another and nothing else, and these are its answers; of each actor's asks so
-- many were answered idle; each fetch went on where this predictor has guessed.
pub record IsAskedAll {P : Type 0} (predicts : P → ℕ → ℕ → ℕ → ℕ → P → Type 0) (before : P)
    (setup : Setup) (limit : ℕ) (kept : Kept) (core : CoreView) (idle : List ℕ) (lines : List ℕ) : Type 0 where
  pub has_setup : core.setup ≡ setup
  pub has_limit : core.limit ≡ limit
  pub shown : Shown core
  pub asked : HaveCounted (words_in kept) (unasked core) core idle lines
  pub after : P
  pub guessed : AreGuessed predicts core.past before after

-- Where the prompt stands between two lines: the lines that are kept, the core, how many of each actor's asks
-- it has answered idle, and the lines of all its answers.
pub record Standing : Type 0 where
  pub kept : Kept
  pub core : CoreView
  pub idle : List ℕ
  pub lines : List ℕ

-- The core has been asked the lines that are kept, and nothing else.
abbrev pub Stands : {P : Type 0} → (P → ℕ → ℕ → ℕ → ℕ → P → Type 0) → P → Setup → ℕ → Standing → Type 0
Stands predicts before setup limit now = IsAskedAll predicts before setup limit now.kept now.core now.idle now.lines
