-- The name in the first part, read from what stands before each separator.
use Rattle.std.proofs.Common.{◌≡◌, ℕ, List, ◌∙◌, ap, subst, sym}
use Rattle.symbols.specs.declared.meanings.Name.{Name}
use Rattle.outcome_queries.specs.{Quoted.field_outside, Terms.trimmed, Placed.SpellsPlaced, Naming.AsksName}
use Rattle.outcome_queries.specs.{Naming.first_asked}
use Rattle.outcome_queries.specs.declared.placed.Placed.{Placed}

first_is : (text one two three four five six last : List ℕ) → one ≡ field_outside 44 text → two ≡ field_outside 38 one
    → three ≡ field_outside 61 two → four ≡ field_outside 60 three → five ≡ field_outside 62 four
    → six ≡ field_outside 33 five → last ≡ trimmed six → last ≡ first_asked text
first_is text one two three four five six last first second third fourth fifth sixth is =
    is ∙ ap trimmed (sixth ∙ ap (field_outside 33) (fifth ∙ ap (field_outside 62) (fourth ∙ ap (field_outside 60)
    (third ∙ ap (field_outside 61) (second ∙ ap (field_outside 38) first)))))

pub none_asked : (text one two three four five six last : List ℕ) → one ≡ field_outside 44 text
    → two ≡ field_outside 38 one → three ≡ field_outside 61 two → four ≡ field_outside 60 three
    → five ≡ field_outside 62 four → six ≡ field_outside 33 five → last ≡ trimmed six
    → ((placed : Placed) → SpellsPlaced last placed → ⊥) → (name : Name) → AsksName text name → ⊥
none_asked text one two three four five six last first second third fourth fifth sixth is none name asks =
    let same = first_is text one two three four five six last first second third fourth fifth sixth is in
    none asks.0 (subst (λ t. SpellsPlaced t asks.0) (sym same) asks.1)
