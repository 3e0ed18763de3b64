-- A text spells one action, one word, and one list of words.
use Rattle.std.specs.Prelude.{◌==◌, if◌then◌else◌, Option, Some, None}
use Rattle.std.specs.{Fmt.decimal, List.AllZip}
use Rattle.std.proofs.Common.{◌≡◌, ℕ, ◌≤◌, ◌<◌, List, [], ◌∷◌, ◌++◌, arith, refl, sym, ap, subst, ◌∙◌, inl, inr}
use Rattle.std.proofs.lemmas.Fmt.{decimal_injective}
use Rattle.numbers.specs.Sizes.{most_actors, most_harts}
use Rattle.scripts.specs.{declared.actions.Action.Action, declared.actions.ScriptWord.ScriptWord}
use Rattle.scripts.specs.declared.actions.Action.TheVariants as action
use Rattle.scripts.specs.Script.{action_text, IsInRange, SpellsWord, pieces}
use Rattle.scripts.specs.Unambiguous.{ScriptsAreUnambiguous}
use Rattle.scripts.proofs.{Parts.Lacks, Parts.has_byte, Parts.same_parts, Decimals.lacks_decimal}
use Rattle.scripts.proofs.Spellings.{lacks_asterisk, with_asterisk, without_asterisk}

-- ---- The numbers behind a letter: an actor, and a hart or none

abbrev numbers_text : ℕ → Option ℕ → List ℕ
numbers_text actor None = decimal actor
numbers_text actor (Some hart) = decimal actor ++ 46 ∷ decimal hart

abbrev IsFew : Option ℕ → Type 0
IsFew None = Unit {0}
IsFew (Some hart) = hart < most_harts

same_number : (m n : ℕ) → m ≤ 100000 → n ≤ 100000 → decimal m ≡ decimal n → m ≡ n
same_number m n small few e = decimal_injective m n (omega arith) (omega arith) e

no_point : (actor : ℕ) → actor < most_actors → Lacks 46 (decimal actor)
no_point actor small = lacks_decimal 46 actor (omega arith) (omega arith)

same_numbers : (k j : ℕ) (h g : Option ℕ) → k < most_actors → j < most_actors → IsFew h → IsFew g
    → numbers_text k h ≡ numbers_text j g → (k ≡ j) × (h ≡ g)
same_numbers k j None None small few in_h in_g e = (same_number k j (omega arith) (omega arith) e, refl)
same_numbers k j None (Some g) small few in_h in_g e =
    absurd (has_byte 46 (decimal k) (decimal j) (decimal g) e (no_point k small))
same_numbers k j (Some h) None small few in_h in_g e =
    absurd (has_byte 46 (decimal j) (decimal k) (decimal h) (sym e) (no_point j few))
same_numbers k j (Some h) (Some g) small few in_h in_g e =
    let parts = same_parts 46 (decimal k) (decimal h) (decimal j) (decimal g) e (no_point k small) (no_point j few) in (
      same_number k j (omega arith) (omega arith) parts.0,
      ap Some (same_number h g (omega arith) (omega arith) parts.1),
    )

-- ---- An action by its letter and its numbers

abbrev letter : Action → ℕ
letter (action.Fetch actor) = 70
letter (action.Decode actor hart) = 68
letter (action.Rename actor hart) = 82
letter (action.Retire actor hart) = 84
letter (action.Issue actor) = 73
letter (action.Complete actor) = 67
letter (action.Unit actor) = 85

abbrev actor_of : Action → ℕ
actor_of (action.Fetch actor) = actor
actor_of (action.Decode actor hart) = actor
actor_of (action.Rename actor hart) = actor
actor_of (action.Retire actor hart) = actor
actor_of (action.Issue actor) = actor
actor_of (action.Complete actor) = actor
actor_of (action.Unit actor) = actor

abbrev hart_of : Action → Option ℕ
hart_of (action.Fetch actor) = None
hart_of (action.Decode actor hart) = Some hart
hart_of (action.Rename actor hart) = Some hart
hart_of (action.Retire actor hart) = Some hart
hart_of (action.Issue actor) = None
hart_of (action.Complete actor) = None
hart_of (action.Unit actor) = None

abbrev action_by : ℕ → ℕ → Option ℕ → Action
action_by name actor None =
    if name == 70 then action.Fetch actor
    else if name == 73 then action.Issue actor
    else if name == 67 then action.Complete actor
    else action.Unit actor
action_by name actor (Some hart) =
    if name == 68 then action.Decode actor hart
    else if name == 82 then action.Rename actor hart
    else action.Retire actor hart

-- the action, its text and its range are those of the three
record IsTold (a : Action) : Type 0 where
  again : action_by (letter a) (actor_of a) (hart_of a) ≡ a
  text : action_text a ≡ letter a ∷ numbers_text (actor_of a) (hart_of a)
  actor : IsInRange a → actor_of a < most_actors
  hart : IsInRange a → IsFew (hart_of a)

told : (a : Action) → IsTold a
told (action.Fetch k) = record { again = refl; text = refl; actor = λ h. h; hart = λ h. tt }
told (action.Decode k g) = record { again = refl; text = refl; actor = λ h. h.0; hart = λ h. h.1 }
told (action.Rename k g) = record { again = refl; text = refl; actor = λ h. h.0; hart = λ h. h.1 }
told (action.Retire k g) = record { again = refl; text = refl; actor = λ h. h.0; hart = λ h. h.1 }
told (action.Issue k) = record { again = refl; text = refl; actor = λ h. h; hart = λ h. tt }
told (action.Complete k) = record { again = refl; text = refl; actor = λ h. h; hart = λ h. tt }
told (action.Unit k) = record { again = refl; text = refl; actor = λ h. h; hart = λ h. tt }

heads : (x y : ℕ) (xs ys : List ℕ) → x ∷ xs ≡ y ∷ ys → (x ≡ y) × (xs ≡ ys)
heads x y xs ys e = (cc, cc)

by_parts : (m n k j : ℕ) (h g : Option ℕ) → m ≡ n → k ≡ j → h ≡ g → action_by m k h ≡ action_by n j g
by_parts m n k j h g one two three = rw (one, two, three) refl

same_action : (a b : Action) → IsInRange a → IsInRange b → action_text a ≡ action_text b → a ≡ b
same_action a b in_a in_b e =
    let of_a = told a in
    let of_b = told b in
    let parts = heads (letter a) (letter b) (numbers_text (actor_of a) (hart_of a))
    (numbers_text (actor_of b) (hart_of b)) (sym of_a.text ∙ (e ∙ of_b.text)) in
    let numbers = same_numbers (actor_of a) (actor_of b) (hart_of a) (hart_of b) (of_a.actor in_a) (of_b.actor in_b)
    (of_a.hart in_a) (of_b.hart in_b) parts.1 in
    sym of_a.again
    ∙ (by_parts (letter a) (letter b) (actor_of a) (actor_of b) (hart_of a) (hart_of b) parts.0 numbers.0 numbers.1
    ∙ of_b.again)

-- ---- A word, and a script

abbrev word_by : Action → ℕ → ScriptWord
word_by a n = record { action = a; repeat = n }

by_fields : (a b : Action) (m n : ℕ) → a ≡ b → m ≡ n → word_by a m ≡ word_by b n
by_fields a b m n one two = rw (one, two) refl

same_word : (text : List ℕ) (v w : ScriptWord) → SpellsWord text v → SpellsWord text w → v ≡ w
same_word text v w of_v of_w =
    let free = lacks_asterisk v.action of_v.in_range in
    elim of_v.spelled [
      | inl both ↦
          let parts = with_asterisk text (action_text v.action) (decimal v.repeat) w both free of_w in
          by_fields v.action w.action v.repeat w.repeat
          (same_action v.action w.action of_v.in_range of_w.in_range parts.0.spelled)
          (same_number v.repeat w.repeat of_v.limit of_w.limit parts.1)
      | inr alone ↦
          let parts = without_asterisk text w (subst (Lacks 42) (sym alone.0) free) of_w in
          by_fields v.action w.action v.repeat w.repeat
          (same_action v.action w.action of_v.in_range of_w.in_range (sym alone.0 ∙ parts.0.spelled))
          (alone.1 ∙ sym parts.1)
    ]

same_words : (ps : List (List ℕ)) (vs ws : List ScriptWord) → AllZip SpellsWord ps vs → AllZip SpellsWord ps ws → vs ≡ ws
same_words [] [] [] one two = refl
same_words [] [] (w ∷ ws) one two = absurd two
same_words [] (v ∷ vs) ws one two = absurd one
same_words (p ∷ ps) [] ws one two = absurd one
same_words (p ∷ ps) (v ∷ vs) [] one two = absurd two
same_words (p ∷ ps) (v ∷ vs) (w ∷ ws) one two =
    let head = same_word p v w one.0 two.0 in
    let tail = same_words ps vs ws one.1 two.1 in
    rw (head, tail) refl

pub scripts_are_unambiguous : ScriptsAreUnambiguous
scripts_are_unambiguous text one two is_one is_two = same_words (pieces text) one two is_one is_two
