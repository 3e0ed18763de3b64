-- What is listed, read in one way.
use Rattle.std.proofs.Common.{◌≡◌, ℕ, List, [], ◌∷◌, refl, sym, ap, ◌∙◌, subst, inl, inr, true≢false}
use Rattle.litmus_tests.specs.declared.condition.Observed.{Observed}
use Rattle.litmus_tests.specs.declared.condition.Observed.TheVariants as observed
use Rattle.litmus_words.specs.declared.word.{Word.Word, Declared.Declared}
use Rattle.litmus_words.specs.declared.word.Token.{Token}
use Rattle.litmus_words.specs.declared.word.Token.TheVariants.{Location, Number, Register, Mark}
use Rattle.litmus_words.specs.declared.word.Mark.TheVariants as mark
use Rattle.litmus_words.specs.Parts.{NoIndex, ObservedTaken}
use Rattle.litmus_words.specs.Tokens.{Takes}
use Rattle.litmus_words.proofs.Only.{in_brackets, location_parts, LocationParts, moved_one, no_bracket, one_first, one_first_of}
use Rattle.litmus_words.proofs.Taking.{begun, same_rest}
use Rattle.litmus_reading.specs.Questions.{WholeTaken}

pub not_begun : (words : List Word) → ((rest : List Word) → Takes words (Mark mark.LeftBracket ∷ []) rest → ⊥)
    → NoIndex words
not_begun [] none = tt
not_begun (word ∷ words) none = λ is. none words (begun (word ∷ words) words (Mark mark.LeftBracket ∷ []) (is, refl))

same_location : (one other : Declared) → Location one ≡ Location other → one ≡ other
same_location one other e = cc

not_location : (declared : Declared) (hart : ℕ) → Location declared ≡ Number hart → ⊥
not_location declared hart e = cc

not_bracketed : (declared : Declared) → Location declared ≡ Mark mark.LeftBracket → ⊥
not_bracketed declared e = cc

-- an array by its name alone is nothing else that could be listed
place_whole : (words behind rest : List Word) (declared : Declared) (index : ℕ) → WholeTaken words declared behind
    → NoIndex behind → LocationParts words index rest → ⊥
place_whole words behind rest declared index whole over (inl alone) =
    let same = same_location declared alone.declared
    (one_first words behind rest (Location declared) (Location alone.declared) whole.takes alone.name) in
    true≢false (sym whole.array ∙ ap (λ (d : Declared). d.is_array) same ∙ alone.one)
place_whole words behind rest declared index whole over (inr (inl bracketed)) =
    not_bracketed declared (one_first words behind bracketed.parts.inside (Location declared) (Mark mark.LeftBracket)
    whole.takes bracketed.parts.opens)
place_whole words behind rest declared index whole over (inr (inr indexed)) =
    let same = same_location declared indexed.declared
    (one_first words behind indexed.behind (Location declared) (Location indexed.declared) whole.takes indexed.name) in
    let there = same_rest words behind indexed.behind (Location declared ∷ []) whole.takes
    (subst (λ (d : Declared). Takes words (Location d ∷ []) indexed.behind) (sym same) indexed.name) in
    let parts = in_brackets indexed.behind rest (Number indexed.element) indexed.brackets in
    no_bracket behind parts.inside over
    (moved_one behind indexed.behind parts.inside (Mark mark.LeftBracket) there parts.opens)

pub one_whole : (words behind rest : List Word) (declared : Declared) (one : Observed)
    → WholeTaken words declared behind → NoIndex behind → ObservedTaken words one rest → ⊥
one_whole words behind rest declared (observed.Location index) whole over taken =
    place_whole words behind rest declared index whole over (location_parts words rest index
    (record { text = taken.text; spells = taken.spells; takes = taken.takes }))
one_whole words behind rest declared (observed.Register hart register) whole over taken =
    not_location declared hart (one_first_of words behind rest (Location declared) (Number hart)
    (Mark mark.Colon ∷ Register register ∷ []) whole.takes
    (subst (λ (t : List Token). Takes words t rest) taken.spells taken.takes))
