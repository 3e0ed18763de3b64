-- The bytes of words that are a hart's own, once one of these words has new ones.
use Rattle.std.specs.Prelude.{◌≡◌, ℕ, zero, suc, ◌+◌, ◌-◌, ◌%◌, ◌<◌, ◌==◌, true, false, List, [], ◌∷◌, ◌++◌, length}
use Rattle.std.specs.Prelude.{slice_index, slice_index_or, slice_set}
use Rattle.std.proofs.Common.{refl, sym, ap, subst, ◌∙◌, inl, inr, arith}
use Rattle.std.proofs.lemmas.Bool.{cases_Bool}
use Rattle.std.proofs.lemmas.Bool.Decides.{nat_tests}
use Rattle.elf_image.specs.Image.{ProgramImage, ram_start, byte_in, word_in, word_of}
use Rattle.events.specs.declared.effect.Written.{Written}
use Rattle.smt_model.specs.Bytes.{written_byte}
use Rattle.smt_model.specs.Reservations.{word_of_address}
use Rattle.shared_memory.specs.Contents.{CanWrite}
use Rattle.shared_memory.proofs.Places.{byte_below}
use Rattle.program_ways.specs.declared.program.Program.{Program}
use Rattle.program_ways.proofs.Moving.{other_word, apart}
use Rattle.program_ways.specs.declared.own.OwnWord.{OwnWord}
use Rattle.program_ways.specs.Keeping.{own_byte, byte_with, IsProgram}

same_test : (a b base : ℕ) → a ≡ b → (a == base) ≡ (b == base)
same_test a b base same = ap (λ n. n == base) same

other_test : (a b base : ℕ) → (a == b) ≡ false → (a == base) ≡ true → (b == base) ≡ false
other_test a b base other is = grind (arith, nat_tests)

pub set_byte : (image : ProgramImage) (own : List OwnWord) (i : ℕ) (d new : OwnWord) (addr : ℕ) → i < length own
    → (slice_index_or own i d).word ≡ new.word
    → ((k : ℕ) → k < i → ((slice_index_or own k d).word == new.word) ≡ false)
    → own_byte image (slice_set own i new) addr ≡ byte_with new addr (own_byte image own addr)
set_byte image [] i d new addr within same none = absurd (omega (arith, within))
set_byte image (x ∷ xs) zero d new addr within same none = elim (cases_Bool (new.word == addr - addr % 4)) [
  | inl here ↦ rw here refl
  | inr there ↦ let other = same_test x.word new.word (addr - addr % 4) same ∙ there in rw (there, other) refl
]
set_byte image (x ∷ xs) (suc i) d new addr within same none =
    elim (cases_Bool (x.word == addr - addr % 4)) [
      | inl here ↦ let other = other_test x.word new.word (addr - addr % 4) (none 0 (omega arith)) here in
          rw (here, other) refl
      | inr there ↦ rw there (set_byte image xs i d new addr (omega (arith, within)) same
          (λ k below. none (suc k) (omega (arith, below))))
    ]

pub push_byte : (image : ProgramImage) (own : List OwnWord) (d new : OwnWord) (addr : ℕ)
    → ((k : ℕ) → k < length own → ((slice_index_or own k d).word == new.word) ≡ false)
    → own_byte image (own ++ new ∷ []) addr ≡ byte_with new addr (own_byte image own addr)
push_byte image [] d new addr none = elim (cases_Bool (new.word == addr - addr % 4)) [
  | inl here ↦ rw here refl
  | inr there ↦ rw there refl
]
push_byte image (x ∷ xs) d new addr none = elim (cases_Bool (x.word == addr - addr % 4)) [
  | inl here ↦ let other = other_test x.word new.word (addr - addr % 4) (none 0 (omega arith)) here in
      rw (here, other) refl
  | inr there ↦ rw there (push_byte image xs d new addr (λ k below. none (suc k) (omega (arith, below))))
]

pub word_whole : (addr : ℕ) → word_of_address addr % 4 ≡ 0
word_whole addr = omega arith

-- Below RAM there is nothing.
nothing_below : (p : Program) → IsProgram p → (addr : ℕ) → addr < ram_start → byte_in p.memory.image addr ≡ 0
nothing_below p program addr below = sym (program.memory.bytes addr) ∙ byte_below p.memory addr below

pub first_below : (p : Program) → IsProgram p → (word : ℕ) → word < ram_start → word % 4 ≡ 0
    → 0 ≡ word_in p.memory.image word
unfolding word_of
first_below p program word below whole =
    let first = nothing_below p program word below in
    let second = nothing_below p program (word + 1) (omega (arith, below, whole)) in
    let third = nothing_below p program (word + 2) (omega (arith, below, whole)) in
    let fourth = nothing_below p program (word + 3) (omega (arith, below, whole)) in
    rw (first, second, third, fourth) refl

-- The bytes of the word of a write are those behind it, and no others change.
pub written_own : (image : ProgramImage) (own : List OwnWord) (w : Written) (bytes : List ℕ) (word addr : ℕ)
    → CanWrite image w → word ≡ word_of_address w.addr
    → (word_of_address addr ≡ word_of_address w.addr
    → slice_index bytes (addr % 4) ≡ written_byte w addr (own_byte image own addr))
    → byte_with (record { word = word; bytes = bytes }) addr (own_byte image own addr)
    ≡ written_byte w addr (own_byte image own addr)
written_own image own w bytes word addr can at is = elim (cases_Bool (word == addr - addr % 4)) [
  | inl here ↦ rw here (is (grind (arith, nat_tests, here, at)))
  | inr other ↦ rw other (sym (other_word image w addr (own_byte image own addr) can
      (λ same. apart (word == addr - addr % 4) other (grind (arith, nat_tests, same, at)))))
]

by_rest : (w : Written) (before : ℕ → ℕ) (word b0 b1 b2 b3 addr rest : ℕ) → rest < 4 → word + rest ≡ addr
    → (word ≡ addr → b0 ≡ written_byte w word (before word))
    → (word + 1 ≡ addr → b1 ≡ written_byte w (word + 1) (before (word + 1)))
    → (word + 2 ≡ addr → b2 ≡ written_byte w (word + 2) (before (word + 2)))
    → (word + 3 ≡ addr → b3 ≡ written_byte w (word + 3) (before (word + 3)))
    → slice_index (b0 ∷ b1 ∷ b2 ∷ b3 ∷ []) rest ≡ written_byte w addr (before addr)
by_rest w before word b0 b1 b2 b3 addr zero less at first second third fourth =
    let is : word ≡ addr = omega (arith, at) in subst (λ a. b0 ≡ written_byte w a (before a)) is (first is)
by_rest w before word b0 b1 b2 b3 addr (suc zero) less at first second third fourth =
    subst (λ a. b1 ≡ written_byte w a (before a)) at (second at)
by_rest w before word b0 b1 b2 b3 addr (suc (suc zero)) less at first second third fourth =
    subst (λ a. b2 ≡ written_byte w a (before a)) at (third at)
by_rest w before word b0 b1 b2 b3 addr (suc (suc (suc zero))) less at first second third fourth =
    subst (λ a. b3 ≡ written_byte w a (before a)) at (fourth at)
by_rest w before word b0 b1 b2 b3 addr (suc (suc (suc (suc rest)))) less at first second third fourth =
    absurd (omega (arith, less))

-- Each of four bytes.
pub one_of_four : (w : Written) (before : ℕ → ℕ) (word b0 b1 b2 b3 addr : ℕ) → word ≡ word_of_address addr
    → (word ≡ addr → b0 ≡ written_byte w word (before word))
    → (word + 1 ≡ addr → b1 ≡ written_byte w (word + 1) (before (word + 1)))
    → (word + 2 ≡ addr → b2 ≡ written_byte w (word + 2) (before (word + 2)))
    → (word + 3 ≡ addr → b3 ≡ written_byte w (word + 3) (before (word + 3)))
    → slice_index (b0 ∷ b1 ∷ b2 ∷ b3 ∷ []) (addr % 4) ≡ written_byte w addr (before addr)
one_of_four w before word b0 b1 b2 b3 addr at first second third fourth =
    by_rest w before word b0 b1 b2 b3 addr (addr % 4) (omega arith) (omega (arith, at)) first second third fourth
