-- Words, cut at a place.
use Rattle.std.proofs.Common.{◌≡◌, ℕ, zero, suc, Option, None, ◌+◌, ◌-◌, ◌<◌, ◌≤◌, List, [], ◌∷◌, ◌++◌, Some, length, take, drop}
use Rattle.std.proofs.Common.{refl, sym, ap, subst, inr, arith, length-drop}
use Rattle.std.proofs.lemmas.List.{take_all}
use Rattle.std.specs.Prelude.{slice_get}
use Rattle.litmus_words.specs.declared.word.Word.{Word}
use Rattle.litmus_words.specs.declared.word.Mark.{Mark}
use Rattle.litmus_words.specs.declared.word.Token.TheVariants.{Mark as mark_token}
use Rattle.litmus_words.specs.Cuts.{IsCut}

at_place : (words : List Word) (i : ℕ) → i < length words
    → (word : Word) × (slice_get words i ≡ Some word) × (words ≡ take i words ++ word ∷ drop (suc i) words)
at_place [] i inside = absurd (omega arith)
at_place (x ∷ xs) zero inside = (x, refl, refl)
at_place (x ∷ xs) (suc i) inside =
    let rest = at_place xs i (omega arith) in (rest.0, rest.1, ap (λ (t : List Word). x ∷ t) rest.2)

pub cut_at : (words : List Word) (mark : Mark) (i : ℕ) → i ≤ length words → (i ≡ length words → ⊥)
    → ((word : Word) → slice_get words i ≡ Some word → word.token ≡ mark_token mark)
    → IsCut words mark (take i words) (take (length words - (i + 1)) (drop (i + 1) words))
cut_at words mark i within short is =
    let place = at_place words i (omega arith) in
    let long : length (drop (suc i) words) ≤ length words - suc i = omega (arith, length-drop (suc i) words) in
    let cut : IsCut words mark (take i words) (take (length words - suc i) (drop (suc i) words)) = inr (
      place.0,
      subst (λ (t : List Word). words ≡ take i words ++ place.0 ∷ t)
          (sym (take_all (length words - suc i) (drop (suc i) words) long)) place.2,
      is place.0 place.1,
    ) in
    let next : suc i ≡ i + 1 = omega arith in
    subst (λ (k : ℕ). IsCut words mark (take i words) (take (length words - k) (drop k words))) next cut

is_word : Option Word → Type 0
is_word None = ⊥
is_word (Some word) = Unit {0}

pub none_past : (words : List Word) (word : Word) → slice_get words (length words) ≡ Some word → ⊥
unfolding is_word
none_past [] word is = subst is_word (sym is) tt
none_past (x ∷ xs) word is = none_past xs word is
