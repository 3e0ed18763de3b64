-- That a script says one thing.
use Rattle.std.specs.Prelude.{◌≡◌, ℕ, List}
use Rattle.scripts.specs.{declared.actions.ScriptWord.ScriptWord, Script.IsScript}

-- ---- Law

-- A text is the script of one list of words at the most.
abbrev pub ScriptsAreUnambiguous : Type 0
ScriptsAreUnambiguous =
    (text : List ℕ) (one two : List ScriptWord) → IsScript text one → IsScript text two → one ≡ two
