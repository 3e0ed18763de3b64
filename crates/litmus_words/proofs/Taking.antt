-- Parts taken one behind the other.
use Rattle.std.proofs.Common.{◌≡◌, ℕ, ◌+◌, ◌*◌, ◌<◌, ℤ, pos, ◌+ℤ◌, List, [], ◌∷◌, ◌++◌, refl, sym, ap, ◌∙◌, inl, inr}
use Rattle.std.proofs.Common.{arith, subst, length}
use Rattle.std.specs.Prelude.{true, false}
use Rattle.litmus_words.specs.declared.word.{Word.Word, Declared.Declared}
use Rattle.litmus_words.specs.declared.word.Token.{Token}
use Rattle.litmus_words.specs.declared.word.Token.TheVariants.{Number, Location, Mark}
use Rattle.litmus_words.specs.declared.word.Mark.TheVariants as mark
use Rattle.litmus_words.specs.Parts.{IntegerTaken, LocationTaken, AddressTaken, ElementTaken, element_size, index_tokens}
use Rattle.litmus_words.specs.Tokens.{Begin, Takes, tokens}

tokens_by : (words rest : List Word) (taken : List Token) → Begin taken words rest
    → tokens words ≡ taken ++ tokens rest
tokens_by words rest [] taken_so = ap tokens taken_so
tokens_by [] rest (token ∷ taken) taken_so = absurd taken_so
tokens_by (word ∷ words) rest (token ∷ taken) taken_so =
    (λ k. taken_so.0 k ∷ tokens_by words rest taken taken_so.1 k)

-- words that begin so
pub begun : (words rest : List Word) (taken : List Token) → Begin taken words rest → Takes words taken rest
begun words rest taken it = record { so = it; spelled = tokens_by words rest taken it }

behind_another : (words between rest : List Word) (first second : List Token) → Begin first words between
    → Begin second between rest → Begin (first ++ second) words rest
behind_another words between rest [] second before behind =
    subst (λ (t : List Word). Begin second t rest) (sym before) behind
behind_another [] between rest (token ∷ first) second before behind = absurd before
behind_another (word ∷ words) between rest (token ∷ first) second before behind =
    (before.0, behind_another words between rest first second before.1 behind)

pub one_behind_another : (words between rest : List Word) (first second : List Token) → Takes words first between
    → Takes between second rest → Takes words (first ++ second) rest
one_behind_another words between rest first second before behind =
    begun words rest (first ++ second) (behind_another words between rest first second before.so behind.so)

-- tokens that stand before the rest do so part by part
pub record InParts (words : List Word) (first second : List Token) (rest : List Word) : Type 0 where
  pub between : List Word
  pub before : Takes words first between
  pub behind : Takes between second rest

parted : (words rest : List Word) (first second : List Token) → Begin (first ++ second) words rest
    → InParts words first second rest
parted words rest [] second taken =
    record { between = words; before = begun words words [] refl; behind = begun words rest second taken }
parted [] rest (token ∷ first) second taken = absurd taken
parted (word ∷ words) rest (token ∷ first) second taken =
    let further = parted words rest first second taken.1 in
    record {
      between = further.between;
      before = begun (word ∷ words) further.between (token ∷ first) (taken.0, further.before.so);
      behind = further.behind;
    }

pub in_parts : (words rest : List Word) (first second : List Token) → Takes words (first ++ second) rest
    → InParts words first second rest
in_parts words rest first second taken = parted words rest first second taken.so

-- what stands before the rest tells the rest
rest_once : (words one other : List Word) (taken : List Token) → Begin taken words one → Begin taken words other
    → one ≡ other
rest_once words one other [] first second = sym first ∙ second
rest_once [] one other (token ∷ taken) first second = absurd first
rest_once (word ∷ words) one other (token ∷ taken) first second = rest_once words one other taken first.1 second.1

pub same_rest : (words one other : List Word) (taken : List Token) → Takes words taken one → Takes words taken other
    → one ≡ other
same_rest words one other taken first second = rest_once words one other taken first.so second.so

length_by : (words rest : List Word) (taken : List Token) → Begin taken words rest
    → length words ≡ length taken + length rest
length_by words rest [] taken_so = let same = ap length taken_so in omega (arith, same)
length_by [] rest (token ∷ taken) taken_so = absurd taken_so
length_by (word ∷ words) rest (token ∷ taken) taken_so =
    let less = length_by words rest taken taken_so.1 in omega (arith, less)

pub shorter_by : (words rest : List Word) (taken : List Token) → Takes words taken rest
    → length words ≡ length taken + length rest
shorter_by words rest taken it = length_by words rest taken it.so

wholly : (words : List Word) (taken : List Token) → tokens words ≡ taken → Begin taken words []
wholly [] [] is = refl
wholly [] (token ∷ taken) is = cc
wholly (word ∷ words) [] is = absurd cc
wholly (word ∷ words) (token ∷ taken) is = (cc, wholly words taken cc)

pub whole : (words : List Word) (taken : List Token) → tokens words ≡ taken → Takes words taken []
whole words taken is = begun words [] taken (wholly words taken is)

pub takes_nothing : (words : List Word) → Takes words [] words
takes_nothing words = begun words words [] refl

pub taken_first : (words rest : List Word) (word : Word) → words ≡ word ∷ rest → Takes words (word.token ∷ []) rest
taken_first words rest word is =
    subst (λ (t : List Word). Takes t (word.token ∷ []) rest) (sym is)
    (begun (word ∷ rest) rest (word.token ∷ []) (refl, refl))

-- the first word
pub first_taken : (words rest behind : List Word) (word : Word) (token : Token) → words ≡ word ∷ rest
    → Takes words (token ∷ []) behind → (word.token ≡ token) × (rest ≡ behind)
first_taken words rest behind word token is taken =
    (subst (λ (t : List Word). Takes t (token ∷ []) behind) is taken).so

-- where more than one token is taken, what stands behind the first is known
begun_by : (words behind rest : List Word) (one other : Token) (more : List Token) → Begin (one ∷ []) words behind
    → Begin (other ∷ more) words rest → (one ≡ other) × Begin more behind rest
begun_by [] behind rest one other more first all = absurd first
begun_by (word ∷ words) behind rest one other more first all =
    (sym first.0 ∙ all.0, subst (λ (t : List Word). Begin more t rest) first.1 all.1)

pub same_first : (words behind rest : List Word) (one other : Token) (more : List Token)
    → Takes words (one ∷ []) behind → Takes words (other ∷ more) rest → one ≡ other
same_first words behind rest one other more first all = (begun_by words behind rest one other more first.so all.so).0

pub goes_on : (words behind rest : List Word) (one other : Token) (more : List Token)
    → Takes words (one ∷ []) behind → Takes words (other ∷ more) rest → Takes behind more rest
goes_on words behind rest one other more first all =
    begun behind rest more (begun_by words behind rest one other more first.so all.so).1

pub begins_by : (words rest : List Word) (one : Token) (more : List Token) → Takes words (one ∷ more) rest
    → InParts words (one ∷ []) more rest
begins_by words rest one more taken = in_parts words rest (one ∷ []) more taken

pub negative : (words between rest : List Word) (natural : ℕ) (number : ℤ) → (number +ℤ pos natural) ≡ pos 0
    → Takes words (Mark mark.Minus ∷ []) between → Takes between (Number natural ∷ []) rest
    → IntegerTaken words number rest
negative words between rest natural number is before behind = record {
  text = Mark mark.Minus ∷ Number natural ∷ [];
  spells = (natural, inr (refl, is));
  takes = one_behind_another words between rest (Mark mark.Minus ∷ []) (Number natural ∷ []) before behind;
}

-- addresses
pub of_location : (words rest : List Word) (declared : Declared) → Takes words (Location declared ∷ []) rest
    → AddressTaken words declared.byte rest
of_location words rest declared name = record {
  text = Location declared ∷ [];
  spells = record { declared = declared; spelled = inl (refl, refl) };
  takes = name;
}

pub of_offset : (words first second rest : List Word) (declared : Declared) (offset byte : ℕ)
    → Takes words (Location declared ∷ []) first → Takes first (Mark mark.Plus ∷ []) second
    → Takes second (Number offset ∷ []) rest → offset < declared.size → byte ≡ declared.byte + offset
    → AddressTaken words byte rest
of_offset words first second rest declared offset byte name plus number inside is = record {
  text = Location declared ∷ Mark mark.Plus ∷ Number offset ∷ [];
  spells = record { declared = declared; spelled = inr (inl (offset, refl, inside, is)) };
  takes = one_behind_another words first rest (Location declared ∷ []) (Mark mark.Plus ∷ Number offset ∷ []) name
      (one_behind_another first second rest (Mark mark.Plus ∷ []) (Number offset ∷ []) plus number);
}

pub of_element : (words first rest : List Word) (declared : Declared) (element offset byte : ℕ)
    → Takes words (Location declared ∷ []) first → ElementTaken first element rest → declared.is_array ≡ true
    → element_size declared * element < declared.size → offset ≡ element_size declared * element
    → byte ≡ declared.byte + offset → AddressTaken words byte rest
of_element words first rest declared element offset byte name index array inside is so = record {
  text = Location declared ∷ index_tokens element;
  spells = record {
    declared = declared;
    spelled = inr (inr (element, refl, array, inside, so ∙ ap (λ (n : ℕ). declared.byte + n) is));
  };
  takes = one_behind_another words first rest (Location declared ∷ []) (index_tokens element) name index;
}

-- an index in brackets
pub indexed : (words first second rest : List Word) (element : ℕ) → Takes words (Mark mark.LeftBracket ∷ []) first
    → Takes first (Number element ∷ []) second → Takes second (Mark mark.RightBracket ∷ []) rest
    → ElementTaken words element rest
indexed words first second rest element left inner right =
    one_behind_another words first rest (Mark mark.LeftBracket ∷ []) (Number element ∷ Mark mark.RightBracket ∷ []) left
    (one_behind_another first second rest (Number element ∷ []) (Mark mark.RightBracket ∷ []) inner right)

-- locations
pub alone_taken : (words rest : List Word) (declared : Declared) (index : ℕ) → Takes words (Location declared ∷ []) rest
    → declared.is_array ≡ false → index ≡ declared.first → LocationTaken words index rest
alone_taken words rest declared index name one is = record {
  text = Location declared ∷ [];
  spells = record { declared = declared; spelled = inl (refl, one, is) };
  takes = name;
}

pub element_taken : (words first rest : List Word) (declared : Declared) (element index : ℕ)
    → Takes words (Location declared ∷ []) first → ElementTaken first element rest → declared.is_array ≡ true
    → element_size declared * element < declared.size → index ≡ declared.first + element
    → LocationTaken words index rest
element_taken words first rest declared element index name taken array inside is = record {
  text = Location declared ∷ index_tokens element;
  spells = record { declared = declared; spelled = inr (inr (element, refl, array, inside, is)) };
  takes = one_behind_another words first rest (Location declared ∷ []) (index_tokens element) name taken;
}

pub bracketed : (words first second rest : List Word) (declared : Declared) (index : ℕ)
    → Takes words (Mark mark.LeftBracket ∷ []) first → Takes first (Location declared ∷ []) second
    → declared.is_array ≡ false → index ≡ declared.first → Takes second (Mark mark.RightBracket ∷ []) rest
    → LocationTaken words index rest
bracketed words first second rest declared index left inner one is right = record {
  text = Mark mark.LeftBracket ∷ Location declared ∷ Mark mark.RightBracket ∷ [];
  spells = record { declared = declared; spelled = inr (inl (refl, one, is)) };
  takes = one_behind_another words first rest (Mark mark.LeftBracket ∷ [])
      (Location declared ∷ Mark mark.RightBracket ∷ []) left
      (one_behind_another first second rest (Location declared ∷ []) (Mark mark.RightBracket ∷ []) inner right);
}
