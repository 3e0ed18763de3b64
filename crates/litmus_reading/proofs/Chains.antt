-- Tokens that are read one behind the other: what stands behind those that were read, and that the next can be.
use Rattle.std.proofs.Common.{◌≡◌, ℕ, ℤ, List, [], ◌∷◌, ◌++◌, length, Result, Ok, Err, inl, inr, refl, sym, ap, ◌∙◌, subst}
use Rattle.std.specs.Prelude.{IfOk, IsErrAnd}
use Rattle.litmus_words.specs.declared.word.Word.{Word}
use Rattle.litmus_words.specs.declared.word.Token.{Token}
use Rattle.litmus_words.specs.declared.word.Token.TheVariants.{Register, Mark}
use Rattle.litmus_words.specs.declared.word.Mark.TheVariants as mark
use Rattle.litmus_words.specs.Parts.{AddressTaken, IntegerTaken, NumberTaken, SpellsInteger, SpellsNumber}
use Rattle.litmus_words.specs.Parts.{SpellsAddress as SpellsByteAddress}
use Rattle.litmus_words.specs.Answered.{Gives, GivesOrMemory}
use Rattle.litmus_words.specs.declared.refused.Stop.{Stop}
use Rattle.litmus_words.specs.declared.refused.Stop.TheVariants.{Memory, Fault}
use Rattle.litmus_words.specs.Tokens.{Begin, Takes, tokens}
use Rattle.litmus_words.proofs.Taking.{begun, takes_nothing, whole}
use Rattle.litmus_tests.specs.declared.fence.AccessSet.{AccessSet}
use Rattle.litmus_tests.specs.declared.fence.Fence.TheVariants.{Sets}
use Rattle.litmus_reading.specs.declared.instruction.Written.TheVariants.{Fence}
use Rattle.litmus_reading.specs.Fences.{SpellsFence, SpellsSets}
use Rattle.litmus_reading.specs.Instructions.{IsLastLabel, ShortTaken, SpellsAddress, SpellsOffset, SpellsShort, base_tokens}

-- a token comes first
pub record OneOf (words : List Word) (token : Token) (more : List Token) : Type 0 where
  pub rest : List Word
  pub takes : Takes words (token ∷ []) rest
  pub behind : tokens rest ≡ more

pub one_of : (words : List Word) (token : Token) (more : List Token) → tokens words ≡ token ∷ more
    → OneOf words token more
one_of [] token more is = absurd cc
one_of (word ∷ words) token more is =
    record { rest = words; takes = begun (word ∷ words) words (token ∷ []) (cc, refl); behind = cc }

pub record TwoOf (words : List Word) (one other : Token) (more : List Token) : Type 0 where
  pub rest : List Word
  pub takes : Takes words (one ∷ other ∷ []) rest
  pub behind : tokens rest ≡ more

pub two_of : (words : List Word) (one other : Token) (more : List Token) → tokens words ≡ one ∷ other ∷ more
    → TwoOf words one other more
two_of [] one other more is = absurd cc
two_of (word ∷ []) one other more is = absurd cc
two_of (word ∷ next ∷ words) one other more is = record {
  rest = words;
  takes = begun (word ∷ next ∷ words) words (one ∷ other ∷ []) (cc, (cc, refl));
  behind = cc;
}

-- what is left
pub behind_one : (words behind : List Word) (found token : Token) (more : List Token)
    → Takes words (found ∷ []) behind → tokens words ≡ token ∷ more → tokens behind ≡ more
behind_one words behind found token more taken is =
    let same : found ∷ tokens behind ≡ token ∷ more = sym taken.spelled ∙ is in cc

pub behind_two : (words behind : List Word) (found next one other : Token) (more : List Token)
    → Takes words (found ∷ next ∷ []) behind → tokens words ≡ one ∷ other ∷ more → tokens behind ≡ more
behind_two words behind found next one other more taken is =
    let same : found ∷ next ∷ tokens behind ≡ one ∷ other ∷ more = sym taken.spelled ∙ is in cc

pub none_of : (words : List Word) → tokens words ≡ [] → words ≡ []
none_of [] is = refl
none_of (word ∷ words) is = absurd cc

pub none_behind : (words behind : List Word) (found label : Word) → words ≡ found ∷ behind
    → tokens words ≡ label.token ∷ [] → behind ≡ []
none_behind words behind found label is one =
    let same : found.token ∷ tokens behind ≡ label.token ∷ [] = sym (ap tokens is) ∙ one in none_of behind cc

-- a number with nothing behind
pub integer_alone : (words : List Word) (number : List Token) (value : ℤ) → SpellsInteger number value
    → tokens words ≡ number → IntegerTaken words value []
integer_alone words number value spells is = record { text = number; spells = spells; takes = whole words number is }

pub short_alone : (words : List Word) (number : List Token) (value : ℤ) → SpellsShort number value
    → tokens words ≡ number → ShortTaken words value []
short_alone words number value spells is = record { text = number; spells = spells; takes = whole words number is }

pub integer_of_short : (words rest : List Word) (number : ℤ) → ShortTaken words number rest
    → IntegerTaken words number rest
integer_of_short words rest number taken =
    record { text = taken.text; spells = taken.spells.spelled; takes = taken.takes }

pub number_alone : (words : List Word) (number : List Token) (value : ℕ) → SpellsNumber number value
    → tokens words ≡ number → NumberTaken words value []
number_alone words number value spells is = record { text = number; spells = spells; takes = whole words number is }

pub address_alone : (words : List Word) (address : List Token) (byte : ℕ) → SpellsByteAddress address byte
    → tokens words ≡ address → AddressTaken words byte []
address_alone words address byte spells is = record { text = address; spells = spells; takes = whole words address is }

-- words behind one word
pub tail_is : (words : List Word) (found one : Word) (behind rest : List Word) → words ≡ found ∷ behind
    → words ≡ one ∷ rest → behind ≡ rest
tail_is words found one behind rest is so = let same : found ∷ behind ≡ one ∷ rest = sym is ∙ so in cc

-- a fence that has operands has sets
pub sets_of : (text : List ℕ) (words : List Word) (before after : AccessSet) → (length words ≡ 0 → ⊥)
    → SpellsFence text words (Fence (Sets before after)) → SpellsSets text words before after
sets_of text words before after some (inl none) = absurd (some (ap length none.0))
sets_of text words before after some (inr sets) = sets

-- the last word of those behind is the last of all
last_before : (words behind : List Word) (taken : List Token) (label : Word) → Begin taken words behind
    → IsLastLabel behind label → IsLastLabel words label
last_before words behind [] label so is = subst (λ (t : List Word). IsLastLabel t label) (sym so) is
last_before [] behind (token ∷ taken) label so is = absurd so
last_before (word ∷ words) behind (token ∷ taken) label so is =
    let rest = last_before words behind taken label so.1 is in
    record { front = word ∷ rest.front; last = ap (λ (t : List Word). word ∷ t) rest.last; named = rest.named }

pub last_of_more : (words behind : List Word) (taken : List Token) (label : Word) → Takes words taken behind
    → IsLastLabel behind label → IsLastLabel words label
last_of_more words behind taken label it is = last_before words behind taken label it.so is

no_more : (words : List Word) (token : Token) (more : List Token) → tokens words ≡ token ∷ more → words ≡ [] → ⊥
no_more [] token more some none = cc
no_more (word ∷ words) token more some none = cc

tail_none : (word : Word) (words : List Word) (label : Word) → word ∷ words ≡ label ∷ [] → words ≡ []
tail_none word words label is = cc

last_by : (word : Word) (words front : List Word) (label : Word) (token : Token) (more : List Token)
    → tokens words ≡ token ∷ more → word ∷ words ≡ front ++ label ∷ []
    → (rest : List Word) × (words ≡ rest ++ label ∷ [])
last_by word words [] label token more some is = absurd (no_more words token more some (tail_none word words label is))
last_by word words (first ∷ front) label token more some is = (front, cc)

some_behind : (words behind : List Word) (taken : List Token) (token : Token) (more : List Token)
    → Begin taken words behind → tokens behind ≡ token ∷ more → (first : Token) × (others : List Token)
    × (tokens words ≡ first ∷ others)
some_behind words behind [] token more so some = (token, more, ap tokens so ∙ some)
some_behind [] behind (first ∷ taken) token more so some = absurd so
some_behind (word ∷ words) behind (first ∷ taken) token more so some = (word.token, tokens words, refl)

last_after : (words behind : List Word) (taken : List Token) (label : Word) (token : Token) (more : List Token)
    → Begin taken words behind → tokens behind ≡ token ∷ more → IsLastLabel words label → IsLastLabel behind label
last_after words behind [] label token more so some is = subst (λ (t : List Word). IsLastLabel t label) so is
last_after [] behind (first ∷ taken) label token more so some is = absurd so
last_after (word ∷ words) behind (first ∷ taken) label token more so some is =
    let there = some_behind words behind taken token more so.1 some in
    let it = last_by word words is.front label there.0 there.1 there.2 is.last in
    last_after words behind taken label token more so.1 some (record { front = it.0; last = it.1; named = is.named })

pub last_of_less : (words behind : List Word) (taken : List Token) (label : Word) (token : Token) (more : List Token)
    → Takes words taken behind → tokens behind ≡ token ∷ more → IsLastLabel words label → IsLastLabel behind label
last_of_less words behind taken label token more it some is =
    last_after words behind taken label token more it.so some is

-- tokens in two parts
pub record PartsOf (words : List Word) (first second : List Token) : Type 0 where
  pub rest : List Word
  pub takes : Takes words first rest
  pub behind : tokens rest ≡ second

pub parts_of : (words : List Word) (first second : List Token) → tokens words ≡ first ++ second
    → PartsOf words first second
parts_of words [] second is = record { rest = words; takes = takes_nothing words; behind = is }
parts_of [] (token ∷ first) second is = absurd cc
parts_of (word ∷ words) (token ∷ first) second is =
    let further = parts_of words first second cc in
    record {
      rest = further.rest;
      takes = begun (word ∷ words) further.rest (token ∷ first) (cc, further.takes.so);
      behind = further.behind;
    }

-- what an answer is, it is in other words
pub gives_so : {A : Type 0} (result : Result A Stop) (P Q : A → Type 0) → ((x : A) → P x → Q x) → Gives result P
    → Gives result Q
gives_so {A} (Ok x) P Q on it = on x it
gives_so {A} (Err stop) P Q on it = it

pub ok_so : {A : Type 0} (result : Result A Stop) (P Q : A → Type 0) → ((x : A) → P x → Q x) → IfOk result P
    → IfOk result Q
ok_so {A} (Ok x) P Q on it = on x it
ok_so {A} (Err stop) P Q on it = it

pub ok_both : {A : Type 0} (result : Result A Stop) (P Q R : A → Type 0) → ((x : A) → P x → Q x → R x)
    → IfOk result P → IfOk result Q → IfOk result R
ok_both {A} (Ok x) P Q R on it also = on x it also
ok_both {A} (Err stop) P Q R on it also = it

-- an offset, where no parenthesis comes first
offset_by : (words : List Word) (offset : ℤ) (base : ℕ) (before : List Token)
    → ((rest : List Word) → Takes words (Mark mark.LeftParenthesis ∷ []) rest → ⊥) → SpellsOffset before offset
    → tokens words ≡ before ++ base_tokens base → (rest : List Word) × ShortTaken words offset rest
    × (tokens rest ≡ base_tokens base)
offset_by words offset base before off (inl none) is =
    let first = one_of words (Mark mark.LeftParenthesis) (Register base ∷ Mark mark.RightParenthesis ∷ [])
    (is ∙ ap (λ (t : List Token). t ++ base_tokens base) none.0) in
    absurd (off first.rest first.takes)
offset_by words offset base before off (inr short) is =
    let parts = parts_of words before (base_tokens base) is in
    (parts.rest, record { text = before; spells = short; takes = parts.takes }, parts.behind)

pub offset_taken : (words : List Word) (offset : ℤ) (base : ℕ)
    → ((rest : List Word) → Takes words (Mark mark.LeftParenthesis ∷ []) rest → ⊥)
    → SpellsAddress (tokens words) offset base → (rest : List Word) × ShortTaken words offset rest
    × (tokens rest ≡ base_tokens base)
offset_taken words offset base off it = offset_by words offset base it.before off it.first it.spelled

-- an error that is handed on
other_error : {A B : Type 0} (P : A → Type 0) (Q : B → Type 0) (stop : Stop) → GivesOrMemory (Err stop) Q
    → GivesOrMemory (Err stop) P
other_error {A} {B} P Q Memory it = tt
other_error {A} {B} P Q (Fault at fault) it = it

pub passed_on : {A B : Type 0} (result : Result A Stop) (stop : Stop) (P : A → Type 0) (Q : B → Type 0)
    → IsErrAnd result (λ found. found ≡ stop) → GivesOrMemory (Err stop) Q → GivesOrMemory result P
passed_on {A} {B} (Ok x) stop P Q is it = absurd is
passed_on {A} {B} (Err found) stop P Q is it =
    subst (λ (s : Stop). GivesOrMemory (Err s) P) (sym is) (other_error P Q stop it)
