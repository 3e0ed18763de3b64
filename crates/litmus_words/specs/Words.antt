-- What a word is, by its bytes, and where it ends.
use Rattle.std.specs.Prelude.{◌≡◌, ◌⊎◌, ℕ, ◌^◌, ◌<◌, ◌≤◌, Bool, ◌||◌, true, false, ◌==◌, List, [], ◌∷◌, codes, length}
use Rattle.std.specs.Prelude.{slice_index, slice_range}
use Rattle.std.specs.{Char.is_ascii_alphabetic, Char.is_ascii_alphanumeric, Char.is_ascii_digit, Fmt.decimal}
use Rattle.rv_text.specs.Registers.{IsNameOf}
use Rattle.litmus_words.specs.declared.word.Word.{Word}
use Rattle.litmus_words.specs.declared.word.Token.{Token}
use Rattle.litmus_words.specs.declared.word.Token.TheVariants as token
use Rattle.litmus_words.specs.declared.word.Mark.{Mark}
use Rattle.litmus_words.specs.declared.word.Mark.TheVariants as mark
use Rattle.litmus_words.specs.{Comments.Opens, Mnemonics.IsNamed, Numbers.SpellsNumeral}
use Rattle.litmus_tests.specs.declared.number_type.NumberType.{NumberType}
use Rattle.watched_outcomes.specs.declared.watch.Width.{Width}
use Rattle.watched_outcomes.specs.declared.watch.Width.TheVariants as width_kind

-- The register of this name; x0 is also `zero`, and x8 also `fp` (the RISC-V psABI).
abbrev pub IsRegisterNamed : List ℕ → ℕ → Type 0
IsRegisterNamed text register =
    ((register ≡ 0) × ((text ≡ codes "x0") ⊎ (text ≡ codes "zero")))
    ⊎ ((register ≡ 8) × (text ≡ codes "fp"))
    ⊎ IsNameOf register text

-- The signs, and the names that are read as marks. [herd's grammar of conditions and of litmus tests; `{` is 123, `}`
-- is 125, `/\` is 47 92]
abbrev pub IsSignNamed : List ℕ → Mark → Type 0
IsSignNamed text mark.Comma = text ≡ codes ","
IsSignNamed text mark.Colon = text ≡ codes ":"
IsSignNamed text mark.Semicolon = text ≡ codes ";"
IsSignNamed text mark.Bar = text ≡ codes "|"
IsSignNamed text mark.Equals = text ≡ codes "="
IsSignNamed text mark.Minus = text ≡ codes "-"
IsSignNamed text mark.Plus = text ≡ codes "+"
IsSignNamed text mark.Star = text ≡ codes "*"
IsSignNamed text mark.LeftParenthesis = text ≡ codes "("
IsSignNamed text mark.RightParenthesis = text ≡ codes ")"
IsSignNamed text mark.LeftBracket = text ≡ codes "["
IsSignNamed text mark.RightBracket = text ≡ codes "]"
IsSignNamed text mark.LeftBrace = text ≡ 123 ∷ []
IsSignNamed text mark.RightBrace = text ≡ 125 ∷ []
IsSignNamed text mark.Not = text ≡ codes "~"
IsSignNamed text mark.And = text ≡ 47 ∷ 92 ∷ []
IsSignNamed text mark.Or = text ≡ 92 ∷ 47 ∷ []
IsSignNamed text mark.Implies = text ≡ codes "=>"
IsSignNamed text mark.Equivalent = text ≡ codes "<=>"
IsSignNamed text mark.Differs = text ≡ codes "!="
IsSignNamed text mark = ⊥

abbrev pub IsKeywordNamed : List ℕ → Mark → Type 0
IsKeywordNamed text mark.Not = text ≡ codes "not"
IsKeywordNamed text mark.True = text ≡ codes "true"
IsKeywordNamed text mark.Exists = text ≡ codes "exists"
IsKeywordNamed text mark.ForAll = text ≡ codes "forall"
IsKeywordNamed text mark.Locations = text ≡ codes "locations"
IsKeywordNamed text mark.Filter = text ≡ codes "filter"
IsKeywordNamed text mark = ⊥

-- The types of numbers of 8 to 32 bits, with a sign or without. [ISO C, 7.20.1.1; `char` has no sign and `short` 16 bits
-- by the RISC-V psABI]
abbrev pub HasTypeName : Width → Bool → List ℕ → Type 0
HasTypeName width_kind.Byte true text = text ≡ codes "int8_t"
HasTypeName width_kind.Byte false text = (text ≡ codes "uint8_t") ⊎ (text ≡ codes "char")
HasTypeName width_kind.Half true text = (text ≡ codes "int16_t") ⊎ (text ≡ codes "short")
HasTypeName width_kind.Half false text = text ≡ codes "uint16_t"
HasTypeName width_kind.Word true text = (text ≡ codes "int") ⊎ (text ≡ codes "int32_t")
HasTypeName width_kind.Word false text = (text ≡ codes "unsigned") ⊎ (text ≡ codes "uint32_t")

abbrev pub IsTypeNamed : List ℕ → NumberType → Type 0
IsTypeNamed text number_type = HasTypeName number_type.width number_type.is_signed text

-- The bytes of a name or a number are the token. A number and a hart's are below 2^32, the names of locations are told
-- later, and a name may be anything.
abbrev pub SpellsToken : List ℕ → Token → Type 0
SpellsToken text (token.Register register) = IsRegisterNamed text register
SpellsToken text (token.Number number) = SpellsNumeral text number × (number < 2 ^ 32)
SpellsToken text (token.Hart hart) = (text ≡ 80 ∷ decimal hart) × (hart < 2 ^ 32)
SpellsToken text (token.Mnemonic mnemonic) = IsNamed text mnemonic
SpellsToken text (token.Mark mark) = IsKeywordNamed text mark
SpellsToken text (token.Type number_type) = IsTypeNamed text number_type
SpellsToken text token.Name = Unit {0}
SpellsToken text (token.Location declared) = ⊥

-- In which order it is asked what a name is.
abbrev pub rank : Token → ℕ
rank (token.Register register) = 0
rank (token.Mark mark) = 1
rank (token.Type number_type) = 2
rank (token.Mnemonic mnemonic) = 3
rank (token.Hart hart) = 4
rank token.Name = 5
rank other = 6

-- What a name is: of all that its bytes spell, the first in that order.
pub record IsNameToken (name : List ℕ) (token : Token) : Type 0 where
  pub spelled : SpellsToken name token
  pub first : (other : Token) → SpellsToken name other → rank token ≤ rank other

-- A letter or `_` begins a name. It goes on with letters, digits, `_` and `.`, as does a number.
abbrev pub begins_name : ℕ → Bool
begins_name byte = is_ascii_alphabetic byte || byte == 95

abbrev pub is_of_name : ℕ → Bool
is_of_name byte = (is_ascii_alphanumeric byte || byte == 95) || byte == 46

-- From the one byte to the other stand such bytes, and none stands behind them.
pub record GoesOn (text : List ℕ) (from to : ℕ) : Type 0 where
  pub each : (at : ℕ) → from ≤ at → at < to → is_of_name (slice_index text at) ≡ true
  pub ends : is_of_name (slice_index text to) ≡ false

-- A word that is a name, to its last byte.
pub record IsNameIn (text : List ℕ) (word : Word) : Type 0 where
  pub begins : begins_name (slice_index text word.start) ≡ true
  pub whole : GoesOn text word.start word.end
  pub token : IsNameToken (slice_range text word.start word.end) word.token

-- A word that is a number, to its last byte.
pub record IsNumberIn (text : List ℕ) (word : Word) : Type 0 where
  pub begins : is_ascii_digit (slice_index text word.start) ≡ true
  pub whole : GoesOn text word.start word.end
  pub number : ℕ
  pub is : word.token ≡ token.Number number
  pub spelled : SpellsToken (slice_range text word.start word.end) (token.Number number)

-- A word that is a sign: the longest that begins there. Where a comment opens, none does.
pub record IsSignIn (text : List ℕ) (word : Word) : Type 0 where
  pub no_comment : Opens text word.start → ⊥
  pub mark : Mark
  pub is : word.token ≡ token.Mark mark
  pub named : IsSignNamed (slice_range text word.start word.end) mark
  pub longest : (other : Mark) → (end : ℕ) → end ≤ length text
      → IsSignNamed (slice_range text word.start end) other → end ≤ word.end

-- One of the three.
abbrev pub IsWordOf : List ℕ → Word → Type 0
IsWordOf text word = IsNameIn text word ⊎ IsNumberIn text word ⊎ IsSignIn text word

-- A word that begins at this byte.
pub record IsWordAt (text : List ℕ) (at : ℕ) (word : Word) : Type 0 where
  pub begins : word.start ≡ at
  pub some : word.start < word.end
  pub inside : word.end ≤ length text
  pub is : IsWordOf text word
