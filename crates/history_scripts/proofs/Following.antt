-- The events that follow a history, the oldest first, with the asks that they answer.
use Rattle.std.specs.Prelude.{◌≡◌, ◌≤◌, ◌+◌, ℕ, true, List, [], ◌∷◌, ◌++◌, length, reverse}
use Rattle.std.proofs.Common.{◌∙◌, refl, sym, ap, subst, append_assoc, append-nil}
use Rattle.std.proofs.{lemmas.List.reverse-append, lemmas.List.reverse-reverse}
use Rattle.events.specs.declared.event.Event.{Event}
use Rattle.smt_model.specs.{Setup.Setup, Rules.is_allowed, Rules.is_legal}
use Rattle.smt_model.specs.Asks.{Ask, answers}
use Rattle.smt_laws.specs.Shown.{Predictor, IsDecided, AreDecided}
use Rattle.history_scripts.specs.Asked.{AreAnswered}

-- These behind those, which are in the other order.
abbrev pub onto : {A : Type 0} → List A → List A → List A
onto [] before = before
onto (x ∷ xs) before = onto xs (x ∷ before)

onto-is : {A : Type 0} (xs before : List A) → onto xs before ≡ reverse xs ++ before
onto-is [] before = refl
onto-is (x ∷ xs) before =
    onto-is xs (x ∷ before) ∙ sym (append_assoc (reverse xs) (x ∷ []) before)
    ∙ ap (λ l. l ++ before) (sym (reverse-append (x ∷ []) xs))

pub reversed : {A : Type 0} (xs : List A) → onto xs [] ≡ reverse xs
reversed xs = onto-is xs [] ∙ append-nil (reverse xs)

pub turned : {A : Type 0} (xs : List A) → onto (reverse xs) [] ≡ xs
turned xs = reversed (reverse xs) ∙ reverse-reverse xs

-- The event may come next, answers the ask, and is decided as the predictor says.
pub record IsNext (setup : Setup) (predict : Predictor) (past : List Event) (ask : Ask) (e : Event) : Type 0 where
  pub allowed : is_allowed setup past e
  pub suits : answers ask past e ≡ true
  pub decided : IsDecided setup predict past e

abbrev pub Follow : Setup → Predictor → List Event → List Ask → List Event → Type 0
Follow setup predict past [] [] = Unit {0}
Follow setup predict past [] (e ∷ later) = ⊥
Follow setup predict past (ask ∷ asks) [] = ⊥
Follow setup predict past (ask ∷ asks) (e ∷ later) =
    IsNext setup predict past ask e × Follow setup predict (e ∷ past) asks later

-- A history with its asks is one that follows the beginning.
module _ (setup : Setup) (predict : Predictor) where
  follow_on : (asks : List Ask) (past : List Event) (later_asks : List Ask) (later : List Event)
      → AreAnswered asks past → is_legal setup past → AreDecided setup predict past
      → Follow setup predict past later_asks later
      → Follow setup predict [] (onto asks later_asks) (onto past later)
  follow_on [] [] later_asks later answered legal decided next = next
  follow_on [] (e ∷ past) later_asks later answered legal decided next = absurd answered
  follow_on (ask ∷ asks) [] later_asks later answered legal decided next = absurd answered
  follow_on (ask ∷ asks) (e ∷ past) later_asks later answered legal decided next =
      follow_on asks past (ask ∷ later_asks) (e ∷ later) answered.1 legal.1 decided.1
      (record { allowed = legal.0; suits = answered.0; decided = decided.0 }, next)

  pub from_start : (asks : List Ask) (past : List Event) → AreAnswered (reverse asks) past → is_legal setup past
      → AreDecided setup predict past → Follow setup predict [] asks (reverse past)
  from_start asks past answered legal decided =
      subst (λ l. Follow setup predict [] asks l) (reversed past)
      (subst (λ l. Follow setup predict [] l (onto past [])) (turned asks)
      (follow_on (reverse asks) past [] [] answered legal decided tt))
