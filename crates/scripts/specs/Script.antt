-- How a script is written (this project's own choice).
use Rattle.std.specs.Prelude.{◌≡◌, ℕ, ◌+◌, ◌≤◌, ◌<◌, ◌==◌, nat_lt, Bool, not, ◌||◌, ◌⊎◌, List, ◌∷◌, ◌++◌}
use Rattle.std.specs.Prelude.{length, filter}
use Rattle.std.specs.{List.slice_split, List.AllZip, Fmt.decimal}
use Rattle.numbers.specs.Sizes.{most_actors, most_harts}
use Rattle.scripts.specs.{declared.actions.Action.Action, declared.actions.ScriptWord.ScriptWord}
use Rattle.scripts.specs.{declared.script.ScriptRefused.ScriptRefused}
use Rattle.scripts.specs.declared.actions.Action.TheVariants as action
use Rattle.scripts.specs.declared.script.ScriptRefused.TheVariants as refused

-- The pieces of a text between spaces and newlines, the empty ones left out.
abbrev pub is_separator : ℕ → Bool
is_separator byte = byte == 32 || byte == 10

abbrev pub is_inside : ℕ → Bool
is_inside byte = not (is_separator byte)

unfoldable pub pieces : List ℕ → List (List ℕ)
pieces text = filter (λ piece. nat_lt 0 (length piece)) (slice_split is_separator text)

-- An action's letter and actor, with the hart behind a point: `F0`, `D1.0`, `R1.0`, `T2.0`, `I3`,
-- `C3`, `U3`.
abbrev pub action_text : Action → List ℕ
action_text (action.Fetch actor) = 70 ∷ decimal actor
action_text (action.Decode actor hart) = 68 ∷ (decimal actor ++ 46 ∷ decimal hart)
action_text (action.Rename actor hart) = 82 ∷ (decimal actor ++ 46 ∷ decimal hart)
action_text (action.Retire actor hart) = 84 ∷ (decimal actor ++ 46 ∷ decimal hart)
action_text (action.Issue actor) = 73 ∷ decimal actor
action_text (action.Complete actor) = 67 ∷ decimal actor
action_text (action.Unit actor) = 85 ∷ decimal actor

-- Its actor and its hart are those of some core.
abbrev pub IsInRange : Action → Type 0
IsInRange (action.Fetch actor) = actor < most_actors
IsInRange (action.Decode actor hart) = (actor < most_actors) × (hart < most_harts)
IsInRange (action.Rename actor hart) = (actor < most_actors) × (hart < most_harts)
IsInRange (action.Retire actor hart) = (actor < most_actors) × (hart < most_harts)
IsInRange (action.Issue actor) = actor < most_actors
IsInRange (action.Complete actor) = actor < most_actors
IsInRange (action.Unit actor) = actor < most_actors

-- The text spells the action.
pub record SpellsAction (text : List ℕ) (action : Action) : Type 0 where
  pub in_range : IsInRange action
  pub spelled : text ≡ action_text action

-- The text spells the word: its action and, behind an asterisk, how often; once may be left out.
pub record SpellsWord (text : List ℕ) (word : ScriptWord) : Type 0 where
  pub in_range : IsInRange word.action
  pub once : 1 ≤ word.repeat
  pub limit : word.repeat ≤ 100000
  pub spelled :
      (text ≡ action_text word.action ++ 42 ∷ decimal word.repeat)
      ⊎ ((text ≡ action_text word.action) × (word.repeat ≡ 1))

-- The text is a script of these words: its pieces spell them, one after another.
abbrev pub IsScript : List ℕ → List ScriptWord → Type 0
IsScript text words = AllZip SpellsWord (pieces text) words

-- The n-th piece of the text, from 1, is the first that spells no word.
pub record IsFirstMisspelled (text : List ℕ) (n : ℕ) : Type 0 where
  pub before : List (List ℕ)
  pub misspelled : List ℕ
  pub after : List (List ℕ)
  pub parts : pieces text ≡ before ++ misspelled ∷ after
  pub place : n ≡ length before + 1
  pub words : List ScriptWord
  pub spelled : AllZip SpellsWord before words
  pub spells_none : (word : ScriptWord) → SpellsWord misspelled word → ⊥

-- When each refusal comes.
abbrev pub IsScriptRefusedFor : List ℕ → ScriptRefused → Type 0
IsScriptRefusedFor text (refused.Word n) = IsFirstMisspelled text n
IsScriptRefusedFor text refused.Memory = Unit {0}
