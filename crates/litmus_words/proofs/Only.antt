-- What the words before the rest say of a part, each of its pieces by itself: there is one way to take it.
use Rattle.std.proofs.Common.{◌≡◌, ◌⊎◌, ℕ, ◌+◌, ◌*◌, ◌<◌, ◌≤◌, true, false, ℤ, pos, ◌+ℤ◌, List, [], ◌∷◌, ◌++◌, refl, sym, ap, ◌∙◌, subst, inl, inr, true≢false, arith}
use Rattle.std.specs.Prelude.{◌≢◌}
use Rattle.litmus_tests.specs.declared.value.Value.{Value}
use Rattle.litmus_tests.specs.declared.value.Value.TheVariants as value
use Rattle.litmus_words.specs.declared.word.{Word.Word, Declared.Declared, Mark.Mark}
use Rattle.litmus_words.specs.declared.word.Token.{Token}
use Rattle.litmus_words.specs.declared.word.Token.TheVariants.{Number, Location, Mark as mark_token}
use Rattle.litmus_words.specs.declared.word.Mark.TheVariants as mark
use Rattle.litmus_words.specs.Parts.{AddressTaken, ElementTaken, IntegerTaken, IsWordOf, LocationTaken, NoIndex, NoOffset, NumberTaken, SpellsByte, SpellsIndex, SpellsInteger, ValueTaken, element_size, index_tokens}
use Rattle.litmus_words.specs.Tokens.{Takes}
use Rattle.litmus_words.proofs.Taking.{first_taken, in_parts, same_first}

-- what stands before the rest of the same words does so
pub moved : (one other rest : List Word) (taken : List Token) → one ≡ other → Takes other taken rest
    → Takes one taken rest
moved one other rest taken same so = subst (λ (t : List Word). Takes t taken rest) (sym same) so

pub moved_one : (one other rest : List Word) (token : Token) → one ≡ other → Takes other (token ∷ []) rest
    → Takes one (token ∷ []) rest
moved_one one other rest token same so = moved one other rest (token ∷ []) same so

-- words begin with one token
pub one_first : (words one other : List Word) (first second : Token) → Takes words (first ∷ []) one
    → Takes words (second ∷ []) other → first ≡ second
one_first words one other first second f s = same_first words one other first second [] f s

pub one_first_of : (words one other : List Word) (first second : Token) (more : List Token)
    → Takes words (first ∷ []) one → Takes words (second ∷ more) other → first ≡ second
one_first_of words one other first second more f s = same_first words one other first second more f s

no_location : (declared : Declared) → mark_token mark.LeftBracket ≡ Location declared → ⊥
no_location declared e = cc

not_both : mark_token mark.Plus ≡ mark_token mark.LeftBracket → ⊥
not_both e = cc

-- an index in brackets
pub record InBrackets (words : List Word) (token : Token) (rest : List Word) : Type 0 where
  pub inside : List Word
  pub last : List Word
  pub opens : Takes words (mark_token mark.LeftBracket ∷ []) inside
  pub one : Takes inside (token ∷ []) last
  pub closes : Takes last (mark_token mark.RightBracket ∷ []) rest

pub in_brackets : (words rest : List Word) (token : Token)
    → Takes words (mark_token mark.LeftBracket ∷ token ∷ mark_token mark.RightBracket ∷ []) rest
    → InBrackets words token rest
in_brackets words rest token taken =
    let first = in_parts words rest (mark_token mark.LeftBracket ∷ [])
    (token ∷ mark_token mark.RightBracket ∷ []) taken in
    let second = in_parts first.between rest (token ∷ []) (mark_token mark.RightBracket ∷ []) first.behind in
    record { inside = first.between; last = second.between; opens = first.before; one = second.before; closes = second.behind }

pub no_bracket : (words rest : List Word) → NoIndex words → Takes words (mark_token mark.LeftBracket ∷ []) rest → ⊥
no_bracket [] rest none taken = taken.so
no_bracket (word ∷ words) rest none taken = none taken.so.0

pub no_plus : (words rest : List Word) → NoOffset words → Takes words (mark_token mark.Plus ∷ []) rest → ⊥
no_plus [] rest none taken = taken.so
no_plus (word ∷ words) rest none taken = none taken.so.0

-- an address, behind its location
pub record GoesOnByOffset (behind : List Word) (declared : Declared) (byte : ℕ) (rest : List Word) : Type 0 where
  pub offset : ℕ
  pub after : List Word
  pub plus : Takes behind (mark_token mark.Plus ∷ []) after
  pub number : Takes after (Number offset ∷ []) rest
  pub inside : offset < declared.size
  pub is : byte ≡ declared.byte + offset

pub record GoesOnByIndex (behind : List Word) (declared : Declared) (byte : ℕ) (rest : List Word) : Type 0 where
  pub element : ℕ
  pub index : ElementTaken behind element rest
  pub array : declared.is_array ≡ true
  pub inside : element_size declared * element < declared.size
  pub is : byte ≡ declared.byte + element_size declared * element

abbrev pub GoesOnTo : List Word → Declared → ℕ → List Word → Type 0
GoesOnTo behind declared byte rest = ((behind ≡ rest) × (byte ≡ declared.byte))
    ⊎ (GoesOnByOffset behind declared byte rest ⊎ GoesOnByIndex behind declared byte rest)

pub record AddressParts (words : List Word) (byte : ℕ) (rest : List Word) : Type 0 where
  pub declared : Declared
  pub behind : List Word
  pub name : Takes words (Location declared ∷ []) behind
  pub on : GoesOnTo behind declared byte rest

address_by : (words rest : List Word) (byte : ℕ) (declared : Declared) (text : List Token)
    → SpellsByte declared text byte → Takes words text rest → AddressParts words byte rest
address_by words rest byte declared text (inl alone) taken = record {
  declared = declared;
  behind = rest;
  name = subst (λ (t : List Token). Takes words t rest) alone.0 taken;
  on = inl (refl, alone.1);
}
address_by words rest byte declared text (inr (inl (offset, is, inside, so))) taken =
    let parts = in_parts words rest (Location declared ∷ []) (mark_token mark.Plus ∷ Number offset ∷ [])
    (subst (λ (t : List Token). Takes words t rest) is taken) in
    let inner = in_parts parts.between rest (mark_token mark.Plus ∷ []) (Number offset ∷ []) parts.behind in
    record {
      declared = declared;
      behind = parts.between;
      name = parts.before;
      on = inr (inl (record {
        offset = offset;
        after = inner.between;
        plus = inner.before;
        number = inner.behind;
        inside = inside;
        is = so;
      }));
    }
address_by words rest byte declared text (inr (inr (element, is, array, inside, so))) taken =
    let parts = in_parts words rest (Location declared ∷ []) (index_tokens element)
    (subst (λ (t : List Token). Takes words t rest) is taken) in
    record {
      declared = declared;
      behind = parts.between;
      name = parts.before;
      on = inr (inr (record { element = element; index = parts.behind; array = array; inside = inside; is = so }));
    }

pub address_parts : (words rest : List Word) (byte : ℕ) → AddressTaken words byte rest → AddressParts words byte rest
address_parts words rest byte taken =
    address_by words rest byte taken.spells.declared taken.text taken.spells.spelled taken.takes

-- how it goes on, by the mark that comes next
pub by_index : (behind rest : List Word) (declared : Declared) (byte : ℕ)
    → ((after : List Word) → Takes behind (mark_token mark.Plus ∷ []) after → ⊥)
    → (after : List Word) → Takes behind (mark_token mark.LeftBracket ∷ []) after → NoIndex rest
    → GoesOnTo behind declared byte rest → GoesOnByIndex behind declared byte rest
by_index behind rest declared byte off after opens over (inl (same, is)) =
    absurd (no_bracket rest after over (moved rest behind after (mark_token mark.LeftBracket ∷ []) (sym same) opens))
by_index behind rest declared byte off after opens over (inr (inl offset)) = absurd (off offset.after offset.plus)
by_index behind rest declared byte off after opens over (inr (inr index)) = index

pub by_offset : (behind rest after : List Word) (declared : Declared) (byte : ℕ)
    → Takes behind (mark_token mark.Plus ∷ []) after → NoOffset rest
    → GoesOnTo behind declared byte rest → GoesOnByOffset behind declared byte rest
by_offset behind rest after declared byte plus over (inl (same, is)) =
    absurd (no_plus rest after over (moved rest behind after (mark_token mark.Plus ∷ []) (sym same) plus))
by_offset behind rest after declared byte plus over (inr (inl offset)) = offset
by_offset behind rest after declared byte plus over (inr (inr index)) =
    absurd (not_both (one_first_of behind after rest (mark_token mark.Plus) (mark_token mark.LeftBracket)
    (Number index.element ∷ mark_token mark.RightBracket ∷ []) plus index.index))

pub by_nothing : (behind rest : List Word) (declared : Declared) (byte : ℕ)
    → ((after : List Word) → Takes behind (mark_token mark.Plus ∷ []) after → ⊥)
    → ((after : List Word) → Takes behind (mark_token mark.LeftBracket ∷ []) after → ⊥)
    → GoesOnTo behind declared byte rest → (byte ≡ declared.byte) × (behind ≡ rest)
by_nothing behind rest declared byte off none (inl (same, is)) = (is, same)
by_nothing behind rest declared byte off none (inr (inl offset)) = absurd (off offset.after offset.plus)
by_nothing behind rest declared byte off none (inr (inr index)) =
    let parts = in_brackets behind rest (Number index.element) index.index in absurd (none parts.inside parts.opens)

-- a location
pub record LocationAlone (words : List Word) (index : ℕ) (rest : List Word) : Type 0 where
  pub declared : Declared
  pub name : Takes words (Location declared ∷ []) rest
  pub one : declared.is_array ≡ false
  pub is : index ≡ declared.first

pub record LocationBracketed (words : List Word) (index : ℕ) (rest : List Word) : Type 0 where
  pub declared : Declared
  pub parts : InBrackets words (Location declared) rest
  pub one : declared.is_array ≡ false
  pub is : index ≡ declared.first

pub record LocationIndexed (words : List Word) (index : ℕ) (rest : List Word) : Type 0 where
  pub declared : Declared
  pub element : ℕ
  pub behind : List Word
  pub name : Takes words (Location declared ∷ []) behind
  pub array : declared.is_array ≡ true
  pub brackets : ElementTaken behind element rest
  pub inside : element_size declared * element < declared.size
  pub is : index ≡ declared.first + element

abbrev pub LocationParts : List Word → ℕ → List Word → Type 0
LocationParts words index rest =
    LocationAlone words index rest ⊎ (LocationBracketed words index rest ⊎ LocationIndexed words index rest)

location_by : (words rest : List Word) (index : ℕ) (declared : Declared) (text : List Token)
    → SpellsIndex declared text index → Takes words text rest → LocationParts words index rest
location_by words rest index declared text (inl (is, one, so)) taken = inl (record {
  declared = declared;
  name = subst (λ (t : List Token). Takes words t rest) is taken;
  one = one;
  is = so;
})
location_by words rest index declared text (inr (inl (is, one, so))) taken = inr (inl (record {
  declared = declared;
  parts = in_brackets words rest (Location declared) (subst (λ (t : List Token). Takes words t rest) is taken);
  one = one;
  is = so;
}))
location_by words rest index declared text (inr (inr (element, is, array, inside, so))) taken =
    let parts = in_parts words rest (Location declared ∷ []) (index_tokens element)
    (subst (λ (t : List Token). Takes words t rest) is taken) in
    inr (inr (record {
      declared = declared;
      element = element;
      behind = parts.between;
      name = parts.before;
      array = array;
      brackets = parts.behind;
      inside = inside;
      is = so;
    }))

pub location_parts : (words rest : List Word) (index : ℕ) → LocationTaken words index rest
    → LocationParts words index rest
location_parts words rest index taken =
    location_by words rest index taken.spells.declared taken.text taken.spells.spelled taken.takes

-- where a bracket comes first, the location is the one in brackets
pub bracket_location : (words rest inner : List Word) (index : ℕ) → Takes words (mark_token mark.LeftBracket ∷ []) inner
    → LocationParts words index rest → LocationBracketed words index rest
bracket_location words rest inner index opens (inl alone) =
    absurd (no_location alone.declared
    (one_first words inner rest (mark_token mark.LeftBracket) (Location alone.declared) opens alone.name))
bracket_location words rest inner index opens (inr (inl bracketed)) = bracketed
bracket_location words rest inner index opens (inr (inr indexed)) =
    absurd (no_location indexed.declared
    (one_first words inner indexed.behind (mark_token mark.LeftBracket) (Location indexed.declared) opens indexed.name))

pub turned : (byte : ℕ) (declared : Declared) (rest behind : List Word) → (byte ≡ declared.byte) × (behind ≡ rest)
    → (declared.byte ≡ byte) × (behind ≡ rest)
turned byte declared rest behind h = (sym h.0, h.1)

-- a number, with a sign or without
pub record PlainInteger (words : List Word) (number : ℤ) (rest : List Word) : Type 0 where
  pub natural : ℕ
  pub taken : Takes words (Number natural ∷ []) rest
  pub is : number ≡ pos natural

pub record SignedInteger (words : List Word) (number : ℤ) (rest : List Word) : Type 0 where
  pub natural : ℕ
  pub between : List Word
  pub minus : Takes words (mark_token mark.Minus ∷ []) between
  pub taken : Takes between (Number natural ∷ []) rest
  pub is : (number +ℤ pos natural) ≡ pos 0

integer_by : (words rest : List Word) (number : ℤ) (text : List Token) → SpellsInteger text number → Takes words text rest
    → PlainInteger words number rest ⊎ SignedInteger words number rest
integer_by words rest number text (natural, inl (is, so)) taken = inl (record {
  natural = natural;
  taken = subst (λ (t : List Token). Takes words t rest) is taken;
  is = so;
})
integer_by words rest number text (natural, inr (is, so)) taken =
    let parts = in_parts words rest (mark_token mark.Minus ∷ []) (Number natural ∷ [])
    (subst (λ (t : List Token). Takes words t rest) is taken) in
    inr (record { natural = natural; between = parts.between; minus = parts.before; taken = parts.behind; is = so })

pub integer_parts : (words rest : List Word) (number : ℤ) → IntegerTaken words number rest
    → PlainInteger words number rest ⊎ SignedInteger words number rest
integer_parts words rest number taken = integer_by words rest number taken.text taken.spells taken.takes

pub plain_integer : (words rest : List Word) (number : ℤ)
    → ((between : List Word) → Takes words (mark_token mark.Minus ∷ []) between → ⊥)
    → PlainInteger words number rest ⊎ SignedInteger words number rest → PlainInteger words number rest
plain_integer words rest number off (inl plain) = plain
plain_integer words rest number off (inr signed) = absurd (off signed.between signed.minus)

pub positive : (words rest : List Word) (natural : ℕ) (number : ℤ) → number ≡ pos natural
    → Takes words (Number natural ∷ []) rest → IntegerTaken words number rest
positive words rest natural number is taken =
    record { text = Number natural ∷ []; spells = (natural, inl (refl, is)); takes = taken }

pub integer_of : (words rest : List Word) (word : ℕ) (taken : NumberTaken words word rest)
    → IntegerTaken words taken.spells.number rest
integer_of words rest word taken =
    record { text = taken.text; spells = taken.spells.spelled; takes = taken.takes }

-- a value, by its first word
number_first : (words rest behind : List Word) (number : ℤ) (token : Token) → Takes words (token ∷ []) behind
    → PlainInteger words number rest ⊎ SignedInteger words number rest
    → ((natural : ℕ) × (token ≡ Number natural)) ⊎ (token ≡ mark_token mark.Minus)
number_first words rest behind number token first (inl plain) =
    inl (plain.natural, one_first words behind rest token (Number plain.natural) first plain.taken)
number_first words rest behind number token first (inr signed) =
    inr (one_first words behind signed.between token (mark_token mark.Minus) first signed.minus)

no_number : (declared : Declared)
    → ((natural : ℕ) × (Location declared ≡ Number natural)) ⊎ (Location declared ≡ mark_token mark.Minus) → ⊥
no_number declared (inl (natural, e)) = cc
no_number declared (inr e) = cc

pub of_address : (words rest behind : List Word) (held : Value) (declared : Declared)
    → Takes words (Location declared ∷ []) behind → ValueTaken words held rest
    → (byte : ℕ) × (held ≡ value.Address byte) × AddressTaken words byte rest
of_address words rest behind (value.Address byte) declared first taken =
    (byte, refl, record { text = taken.text; spells = taken.spells; takes = taken.takes })
of_address words rest behind (value.Number number) declared first taken =
    let it : NumberTaken words number rest =
    record { text = taken.text; spells = taken.spells; takes = taken.takes } in
    absurd (no_number declared (number_first words rest behind it.spells.number (Location declared) first
    (integer_parts words rest it.spells.number (integer_of words rest number it))))

pub of_number : (words rest behind : List Word) (held : Value) (word : Word) → words ≡ word ∷ behind
    → ((declared : Declared) → word.token ≡ Location declared → ⊥) → ValueTaken words held rest
    → (number : ℕ) × (held ≡ value.Number number) × NumberTaken words number rest
of_number words rest behind (value.Number number) word is off taken =
    (number, refl, record { text = taken.text; spells = taken.spells; takes = taken.takes })
of_number words rest behind (value.Address byte) word is off taken =
    let parts = address_parts words rest byte
    (record { text = taken.text; spells = taken.spells; takes = taken.takes }) in
    absurd (off parts.declared (first_taken words behind parts.behind word (Location parts.declared) is parts.name).0)

pub same_word : (one other : ℤ) (word : ℕ) → one ≡ other → IsWordOf other word → IsWordOf one word
same_word one other word same is = subst (λ (n : ℤ). IsWordOf n word) (sym same) is

-- a location that no bracket begins
pub location_without : (words rest : List Word) (index : ℕ) (IsSo : ℕ → List Word → Type 0)
    → ((between : List Word) → Takes words (mark_token mark.LeftBracket ∷ []) between → ⊥)
    → ((declared : Declared) (behind : List Word) → Takes words (Location declared ∷ []) behind
    → declared.is_array ≡ false → NoIndex behind → IsSo declared.first behind)
    → ((declared : Declared) (element : ℕ) (behind after : List Word) → Takes words (Location declared ∷ []) behind
    → declared.is_array ≡ true → ElementTaken behind element after
    → element_size declared * element < declared.size → IsSo (declared.first + element) after)
    → NoIndex rest → LocationParts words index rest → IsSo index rest
location_without words rest index IsSo off alone indexed over (inl it) =
    subst (λ (n : ℕ). IsSo n rest) (sym it.is) (alone it.declared rest it.name it.one over)
location_without words rest index IsSo off alone indexed over (inr (inl it)) =
    absurd (off it.parts.inside it.parts.opens)
location_without words rest index IsSo off alone indexed over (inr (inr it)) =
    subst (λ (n : ℕ). IsSo n rest) (sym it.is)
    (indexed it.declared it.element it.behind rest it.name it.array it.brackets it.inside)
