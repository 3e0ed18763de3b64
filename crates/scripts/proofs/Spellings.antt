-- Lemmas on spelled words.
use Rattle.std.proofs.Common.{◌≡◌, ℕ, ◌≤◌, ◌<◌, List, ◌∷◌, ◌++◌, arith, sym, ◌∙◌, ◌≢◌, inl, inr}
use Rattle.std.specs.Fmt.{decimal}
use Rattle.std.proofs.lemmas.List.Elements.{All-cons, All-append}
use Rattle.numbers.specs.Sizes.{most_actors, most_harts}
use Rattle.scripts.specs.{declared.actions.Action.Action, declared.actions.ScriptWord.ScriptWord}
use Rattle.scripts.specs.declared.actions.Action.TheVariants as action
use Rattle.scripts.specs.Script.{action_text, IsInRange, SpellsAction, SpellsWord}
use Rattle.scripts.proofs.{Parts.Lacks, Parts.has_byte, Parts.same_parts, Decimals.lacks_decimal}

-- the parts of an actor and a hart
pub actor_and_hart : (text left right : List ℕ) (actor hart : ℕ) → actor < most_actors → text ≡ left ++ 46 ∷ right
    → Lacks 46 left →
    text ≡ decimal actor ++ 46 ∷ decimal hart → (left ≡ decimal actor) × (right ≡ decimal hart)
actor_and_hart text left right actor hart small e lacks spelled =
    same_parts 46 left right (decimal actor) (decimal hart) (sym e ∙ spelled) lacks
    (lacks_decimal 46 actor (omega arith) (omega arith))

lacks_one : (letter actor : ℕ) → 48 ≤ letter → actor < most_actors → Lacks 42 (letter ∷ decimal actor)
lacks_one letter actor high small =
    All-cons (λ b. b ≢ 42) letter (decimal actor) (omega arith) (lacks_decimal 42 actor (omega arith) (omega arith))

lacks_two : (letter actor hart : ℕ) → 48 ≤ letter → actor < most_actors → hart < most_harts
    → Lacks 42 (letter ∷ (decimal actor ++ 46 ∷ decimal hart))
lacks_two letter actor hart high small few =
    All-cons (λ b. b ≢ 42) letter _ (omega arith)
    (All-append (λ b. b ≢ 42) (decimal actor) _ (lacks_decimal 42 actor (omega arith) (omega arith))
    (All-cons (λ b. b ≢ 42) 46 _ (omega arith) (lacks_decimal 42 hart (omega arith) (omega arith))))

-- an action's text has no asterisk
pub lacks_asterisk : (a : Action) → IsInRange a → Lacks 42 (action_text a)
lacks_asterisk (action.Fetch actor) h = lacks_one 70 actor (omega arith) h
lacks_asterisk (action.Decode actor hart) h = lacks_two 68 actor hart (omega arith) h.0 h.1
lacks_asterisk (action.Rename actor hart) h = lacks_two 82 actor hart (omega arith) h.0 h.1
lacks_asterisk (action.Retire actor hart) h = lacks_two 84 actor hart (omega arith) h.0 h.1
lacks_asterisk (action.Issue actor) h = lacks_one 73 actor (omega arith) h
lacks_asterisk (action.Complete actor) h = lacks_one 67 actor (omega arith) h
lacks_asterisk (action.Unit actor) h = lacks_one 85 actor (omega arith) h

-- the parts of a word with an asterisk, and of one without
pub with_asterisk : (text left right : List ℕ) (w : ScriptWord) → text ≡ left ++ 42 ∷ right → Lacks 42 left
    → SpellsWord text w →
    SpellsAction left w.action × (right ≡ decimal w.repeat)
with_asterisk text left right w e lacks h =
    let free = lacks_asterisk w.action h.in_range in
    elim h.spelled [
      | inl both ↦
          let parts = same_parts 42 left right (action_text w.action) (decimal w.repeat) (sym e ∙ both) lacks free in
          (record { in_range = h.in_range; spelled = parts.0 }, parts.1)
      | inr alone ↦ absurd (has_byte 42 text left right e (rw alone.0 free))
    ]

pub without_asterisk : (text : List ℕ) (w : ScriptWord) → Lacks 42 text → SpellsWord text w
    → SpellsAction text w.action × (w.repeat ≡ 1)
without_asterisk text w lacks h =
    elim h.spelled [
      | inl both ↦ absurd (has_byte 42 text (action_text w.action) (decimal w.repeat) both lacks)
      | inr alone ↦ (record { in_range = h.in_range; spelled = alone.0 }, alone.1)
    ]
