-- The asks of a history.
use Rattle.std.specs.Prelude.{◌≡◌, ℕ, true, List, [], ◌∷◌, reverse}
use Rattle.events.specs.declared.event.Event.{Event}
use Rattle.smt_model.specs.Asks.{Ask, answers}
use Rattle.scripts.specs.{declared.actions.ScriptWord.ScriptWord, Script.IsScript}
use Rattle.schedules.specs.Asks.{asks_of}

-- One ask for each event of a history, which answers it; both have the newest first.
abbrev pub AreAnswered : List Ask → List Event → Type 0
AreAnswered [] [] = Unit {0}
AreAnswered [] (e ∷ past) = ⊥
AreAnswered (ask ∷ asks) [] = ⊥
AreAnswered (ask ∷ asks) (e ∷ past) = (answers ask past e ≡ true) × AreAnswered asks past

-- The text is a script that asks for just these events, one after another.
pub record AsksFor (past : List Event) (text : List ℕ) : Type 0 where
  pub words : List ScriptWord
  pub is_script : IsScript text words
  pub asks : AreAnswered (reverse (asks_of words)) past
