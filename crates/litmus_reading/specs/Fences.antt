-- Which words spell the sets of a fence: letters of `i`, `o`, `r` and `w`. [RISC-V Unprivileged ISA, "FENCE"; the RISC-V
-- Assembly Programmer's Manual]
use Rattle.std.specs.Prelude.{◌≡◌, ◌≢◌, ◌⊎◌, ℕ, ◌==◌, ◌||◌, Bool, true, List, [], ◌∷◌, All}
use Rattle.std.specs.List.{list_any}
use Rattle.litmus_tests.specs.declared.fence.{AccessSet.AccessSet}
use Rattle.litmus_tests.specs.declared.fence.Fence.TheVariants.{Sets}
use Rattle.litmus_words.specs.declared.word.Word.{Word}
use Rattle.litmus_words.specs.Bytes.{bytes_in}
use Rattle.litmus_words.specs.declared.word.Token.TheVariants.{Mark}
use Rattle.litmus_words.specs.declared.word.Mark.TheVariants as mark
use Rattle.litmus_reading.specs.declared.instruction.Written.{Written}
use Rattle.litmus_reading.specs.declared.instruction.Written.TheVariants.{Fence}

abbrev pub has_letter : List ℕ → ℕ → Bool
has_letter letters one = list_any (λ letter. letter == one) letters

-- The accesses that letters name.
abbrev pub accesses_of : List ℕ → AccessSet
accesses_of letters = record {
  input = has_letter letters 105;
  output = has_letter letters 111;
  reads = has_letter letters 114;
  writes = has_letter letters 119;
}

abbrev pub every_access : AccessSet
every_access = record { input = true; output = true; reads = true; writes = true }

abbrev pub letters_of : List ℕ → Word → List ℕ
letters_of text word = bytes_in text word

-- A word that names accesses: one of these letters at least, and no other.
abbrev pub is_access : ℕ → Bool
is_access letter = letter == 105 || letter == 111 || letter == 114 || letter == 119

pub record NamesAccesses (text : List ℕ) (word : Word) : Type 0 where
  pub some : letters_of text word ≢ []
  pub each : All (λ letter. is_access letter ≡ true) (letters_of text word)

-- A word that names accesses stands before the rest of the words.
pub record AccessesTaken (text : List ℕ) (words : List Word) (accesses : AccessSet) (rest : List Word) : Type 0 where
  pub word : Word
  pub first : words ≡ word ∷ rest
  pub names : NamesAccesses text word
  pub named : accesses ≡ accesses_of (letters_of text word)

-- `rw,w`.
pub record SpellsSets (text : List ℕ) (words : List Word) (before after : AccessSet) : Type 0 where
  pub first : Word
  pub comma : Word
  pub second : Word
  pub spelled : words ≡ first ∷ comma ∷ second ∷ []
  pub between : comma.token ≡ Mark mark.Comma
  pub names_before : NamesAccesses text first
  pub names_after : NamesAccesses text second
  pub before_named : before ≡ accesses_of (letters_of text first)
  pub after_named : after ≡ accesses_of (letters_of text second)

-- The operands of `fence`: none, and it names all accesses, or two sets.
abbrev pub SpellsFence : List ℕ → List Word → Written → Type 0
SpellsFence text words (Fence (Sets before after)) =
    ((words ≡ []) × (before ≡ every_access) × (after ≡ every_access)) ⊎ SpellsSets text words before after
SpellsFence text words written = ⊥

-- The sets of a fence stand behind its name.
abbrev pub HasItsSets : List ℕ → List Word → Written → Type 0
HasItsSets text (name ∷ operands) (Fence (Sets before after)) = SpellsFence text operands (Fence (Sets before after))
HasItsSets text words written = Unit {0}
