-- A script of a history makes it again.
use Rattle.std.specs.Prelude.{◌≡◌, ◌≤◌, ◌+◌, ℕ, zero, suc, List, [], ◌∷◌, ◌++◌, length, reverse, replicate, flat_map}
use Rattle.std.specs.List.{AllByRecursion, AllZip}
use Rattle.std.proofs.Common.{◌∙◌, refl, sym, ap, subst, arith}
use Rattle.std.proofs.lemmas.List.{length-reverse}
use Rattle.events.specs.declared.event.Event.{Event}
use Rattle.smt_model.specs.{Setup.Setup, Rules.is_legal}
use Rattle.smt_laws.specs.Shown.{AsksHaveOneAnswer, AreDecided}
use Rattle.core_state.specs.View.{CoreView}
use Rattle.scripts.specs.{declared.actions.Action.Action, declared.actions.ScriptWord.ScriptWord}
use Rattle.scripts.specs.Script.{IsInRange, SpellsWord, pieces}
use Rattle.scripts.specs.Session.{nobody, repeated, actions_of, unasked, AreAskedWith}
use Rattle.scripts.specs.Unambiguous.{ScriptsAreUnambiguous}
use Rattle.schedules.specs.{Asks.asks_of_action, Asks.asks_of, Replies.IsFunction, Replies.predictor_of}
use Rattle.schedules.proofs.Replying.{all_follow}
use Rattle.schedules.proofs.Scripted.{asks_are}
use Rattle.history_scripts.specs.{Asked.AreAnswered, Asked.AsksFor, Deciding.AreGuessedBy}
use Rattle.history_scripts.specs.Again.{MakesAgain, ScriptsMakeAgain}
use Rattle.history_scripts.proofs.Following.{Follow, onto, turned, from_start}
use Rattle.history_scripts.proofs.Acting.{all_made, at_start}

-- ---- The actions of a script's words are in range

again_in_range : (n : ℕ) (x : Action) → IsInRange x → AllByRecursion IsInRange (replicate n x)
again_in_range zero x inside = tt
again_in_range (suc n) x inside = (inside, again_in_range n x inside)

both_in_range : (xs ys : List Action) → AllByRecursion IsInRange xs → AllByRecursion IsInRange ys
    → AllByRecursion IsInRange (xs ++ ys)
both_in_range [] ys one two = two
both_in_range (x ∷ xs) ys one two = (one.0, both_in_range xs ys one.1 two)

all_in_range : (texts : List (List ℕ)) (words : List ScriptWord) → AllZip SpellsWord texts words
    → AllByRecursion IsInRange (actions_of words)
all_in_range [] [] spelled = tt
all_in_range [] (word ∷ words) spelled = absurd spelled
all_in_range (text ∷ texts) [] spelled = absurd spelled
all_in_range (text ∷ texts) (word ∷ words) spelled =
    both_in_range (repeated word) (actions_of words) (again_in_range word.repeat word.action spelled.0.in_range)
    (all_in_range texts words spelled.1)

-- ---- The law

module _ {P : Type 0} (predicts : P → ℕ → ℕ → ℕ → ℕ → P → Type 0) (one : AsksHaveOneAnswer)
    (unambiguous : ScriptsAreUnambiguous) (guess : ℕ → ℕ → ℕ → ℕ) (function : IsFunction predicts guess) where
  -- Of a core that has this history's setup.
  made_by : (past : List Event) (script : List ℕ) (before after : P) (core : CoreView) (text : List ℕ)
      → is_legal core.setup past → AsksFor past script → AreDecided core.setup (predictor_of guess) past
      → length past ≤ core.limit → AreAskedWith predicts before after script core text → core.past ≡ past
  made_by past script before after core text legal asks decided room made =
      let words = made.asked.words in
      let same : words ≡ asks.words =
      unambiguous script words asks.words made.asked.is_script asks.is_script in
      let answered = subst (λ ws. AreAnswered (reverse (asks_of ws)) past) (sym same) asks.asks in
      let follow = from_start core.setup (predictor_of guess) (asks_of words) past answered legal decided in
      let next = subst (λ l. Follow core.setup (predictor_of guess) [] l (reverse past)) (sym (asks_are words))
      follow in
      let as_long = length-reverse past in
      let is = all_made one core.setup core.limit guess (actions_of words) [] (reverse past) (unasked core) core nobody
      made.asked.asked.0 text (all_in_range (pieces script) words made.asked.is_script) (omega arith) next
      made.asked.asked.1 (all_follow predicts guess function core.past before after made.guessed)
      (at_start one core.setup core.limit guess nobody refl) in
      ap (λ c. c.past) is ∙ turned past

  makes_again : (setup : Setup) (past : List Event) (script : List ℕ) → is_legal setup past → AsksFor past script
      → AreGuessedBy predicts setup past → MakesAgain predicts setup past script
  makes_again setup past script legal asks guessed before after core text own room made =
      made_by past script before after core text (subst (λ s. is_legal s past) (sym own) legal) asks
      (subst (λ s. AreDecided s (predictor_of guess) past) (sym own) (guessed guess function)) room made

pub again : {P : Type 0} (predicts : P → ℕ → ℕ → ℕ → ℕ → P → Type 0) → AsksHaveOneAnswer → ScriptsAreUnambiguous
    → ScriptsMakeAgain predicts
again predicts one unambiguous guess function setup past script legal asks guessed =
    makes_again predicts one unambiguous guess function setup past script legal asks guessed
