-- What the words of a script ask of a core.
use Rattle.std.specs.Prelude.{◌≡◌, ℕ, List, [], ◌∷◌, None, flat_map, replicate}
use Rattle.std.specs.List.{AllByRecursion}
use Rattle.events.specs.declared.event.Event.{Event}
use Rattle.smt_model.specs.{Setup.Setup, Jobs.job}
use Rattle.smt_model.specs.Asks.{Ask, AskFetch, AskDecode, AskRename, AskIssue, AskComplete}
use Rattle.smt_model.specs.Asks.{AskRetire}
use Rattle.smt_laws.specs.{Shown.Predictor, Scripts.IsReply}
use Rattle.scripts.specs.{declared.actions.Action.Action, declared.actions.ScriptWord.ScriptWord}
use Rattle.scripts.specs.declared.actions.Action.TheVariants as action

-- The asks of one action, the first ask first.
abbrev pub asks_of_action : Action → List Ask
asks_of_action (action.Fetch actor) = AskFetch actor ∷ []
asks_of_action (action.Decode actor hart) = AskDecode actor hart ∷ []
asks_of_action (action.Rename actor hart) = AskRename actor hart ∷ []
asks_of_action (action.Retire actor hart) = AskRetire actor hart ∷ []
asks_of_action (action.Issue actor) = AskIssue actor ∷ []
asks_of_action (action.Complete actor) = AskComplete actor ∷ []
asks_of_action (action.Unit actor) = AskIssue actor ∷ AskComplete actor ∷ []

-- Those of words, each made as often as its word says.
abbrev pub asks_of_word : ScriptWord → List Ask
asks_of_word word = flat_map asks_of_action (replicate word.repeat word.action)

abbrev pub asks_of : List ScriptWord → List Ask
asks_of words = flat_map asks_of_word words

-- No word issues alone: what is issued is issued by a unit, and handed back by it.
abbrev pub IsNoIssue : Action → Type 0
IsNoIssue (action.Issue actor) = ⊥
IsNoIssue _ = Unit {0}

abbrev pub HasNoIssue : List ScriptWord → Type 0
HasNoIssue words = AllByRecursion (λ word. IsNoIssue word.action) words

-- ---- Law

-- A completion that is asked where the actor has no job leaves the history as it was. So a unit
-- that completes only where a job came has the history of both asks.
abbrev pub CompletesNothing : Type 0
CompletesNothing = (setup : Setup) (predict : Predictor) (actor : ℕ) (past : List Event)
    → job past actor ≡ None → IsReply setup predict (AskComplete actor) past past
    × ((now : List Event) → IsReply setup predict (AskComplete actor) past now → now ≡ past)
