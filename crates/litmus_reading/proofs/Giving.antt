-- What may stand before an entry, as the words begin with it.
use Rattle.std.proofs.Common.{◌≡◌, Bool, if◌then◌else◌, List, [], ◌∷◌, ◌++◌, refl, sym, subst, inl, inr}
use Rattle.litmus_tests.specs.declared.number_type.NumberType.{NumberType}
use Rattle.litmus_words.specs.declared.word.Word.{Word}
use Rattle.litmus_words.specs.declared.word.Token.{Token}
use Rattle.litmus_words.specs.declared.word.Token.TheVariants as token
use Rattle.litmus_words.specs.declared.word.Mark.TheVariants as mark
use Rattle.litmus_words.specs.Tokens.{Takes}
use Rattle.litmus_words.proofs.Taking.{begun, one_behind_another, takes_nothing}
use Rattle.litmus_reading.specs.declared.contents.Given.{Given}
use Rattle.litmus_reading.specs.Declarations.{begins, behind_one, is_star, is_type, type_before, type_of_token, untyped}
use Rattle.litmus_reading.specs.Starts.{GivenTaken, SpellsStar, SpellsType}

one_taken : (word : Word) (words : List Word) (one : Token) → word.token ≡ one
    → Takes (word ∷ words) (one ∷ []) words
one_taken word words one is = begun (word ∷ words) words (one ∷ []) (is, refl)

record TypeTaken (words : List Word) (number_type : NumberType) (rest : List Word) : Type 0 where
  pub text : List Token
  pub spells : SpellsType text number_type
  pub takes : Takes words text rest

record StarTaken (words : List Word) (is_pointer : Bool) (rest : List Word) : Type 0 where
  pub text : List Token
  pub spells : SpellsStar text is_pointer
  pub takes : Takes words text rest

type_at : (word : Word) (words : List Word) (one : Token) → word.token ≡ one
    → TypeTaken (word ∷ words) (type_of_token one) (if is_type one then words else word ∷ words)
type_at word words (token.Type number_type) is = record {
  text = token.Type number_type ∷ [];
  spells = inr refl;
  takes = one_taken word words (token.Type number_type) is;
}
type_at word words one is = record { text = []; spells = inl (refl, refl); takes = takes_nothing (word ∷ words) }

type_taken : (words : List Word) → TypeTaken words (type_before words) (untyped words)
type_taken [] = record { text = []; spells = inl (refl, refl); takes = takes_nothing [] }
type_taken (word ∷ words) = type_at word words word.token refl

star_at : (word : Word) (words : List Word) (one : Token) → word.token ≡ one
    → StarTaken (word ∷ words) (is_star one) (if is_star one then words else word ∷ words)
star_at word words (token.Mark mark.Star) is = record {
  text = token.Mark mark.Star ∷ [];
  spells = inr (refl, refl);
  takes = one_taken word words (token.Mark mark.Star) is;
}
star_at word words one is = record { text = []; spells = inl (refl, refl); takes = takes_nothing (word ∷ words) }

star_taken : (words : List Word) → StarTaken words (begins is_star words) (behind_one is_star words)
star_taken [] = record { text = []; spells = inl (refl, refl); takes = takes_nothing [] }
star_taken (word ∷ words) = star_at word words word.token refl

pub given_taken : (words rest behind : List Word) (given : Given) → given.number_type ≡ type_before words
    → rest ≡ untyped words → given.is_pointer ≡ begins is_star rest → behind ≡ behind_one is_star rest
    → GivenTaken words given behind
given_taken words rest behind given typed so pointed is =
    let one = type_taken words in
    let star = star_taken rest in
    record {
      text = one.text ++ star.text;
      spells = record {
        type_text = one.text;
        star_text = star.text;
        spelled = refl;
        typed = subst (SpellsType one.text) (sym typed) one.spells;
        pointed = subst (SpellsStar star.text) (sym pointed) star.spells;
      };
      takes = one_behind_another words rest behind one.text star.text
          (subst (Takes words one.text) (sym so) one.takes) (subst (Takes rest star.text) (sym is) star.takes);
    }
