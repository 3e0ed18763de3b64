-- How words are printed, so that they are read again. (This project's own choice.)
use Rattle.std.specs.Prelude.{ℕ, ◌≤◌, ◌==◌, if◌then◌else◌, List, [], ◌∷◌, ◌++◌, flat_map}
use Rattle.std.specs.{List.AllByRecursion, Fmt.decimal}
use Rattle.scripts.specs.{declared.actions.ScriptWord.ScriptWord, Script.IsInRange, Script.IsScript}
use Rattle.scripts.specs.Script.{action_text}

-- A word that a script can have: its actor and its hart are there, and it is made 1 to 100000
-- times.
pub record IsWord (word : ScriptWord) : Type 0 where
  pub in_range : IsInRange word.action
  pub once : 1 ≤ word.repeat
  pub limit : word.repeat ≤ 100000

-- Its text: the action and, where it isn't made once, an asterisk and how often.
abbrev pub word_text : ScriptWord → List ℕ
word_text word =
    if word.repeat == 1 then action_text word.action
    else action_text word.action ++ 42 ∷ decimal word.repeat

-- A line of words: apart by spaces, with a newline behind the last.
abbrev pub spaced_text : ScriptWord → List ℕ
spaced_text word = 32 ∷ word_text word

abbrev pub line_text : List ScriptWord → List ℕ
line_text [] = 10 ∷ []
line_text (word ∷ others) = word_text word ++ (flat_map spaced_text others ++ 10 ∷ [])

-- ---- Law

abbrev pub words_in : List (List ScriptWord) → List ScriptWord
words_in lines = flat_map (λ words. words) lines

-- Lines of words, one behind another, are a script of all their words.
abbrev pub LinesAreScripts : Type 0
LinesAreScripts = (lines : List (List ScriptWord)) → AllByRecursion (AllByRecursion IsWord) lines
    → IsScript (flat_map line_text lines) (words_in lines)
