-- Memories that agree on the code have the same words.
use Rattle.std.specs.Prelude.{◌≡◌, ℕ, ◌+◌, ◌<◌, true}
use Rattle.std.proofs.Common.{refl, inl, inr, arith}
use Rattle.std.proofs.{lemmas.Bool.cases_Bool, lemmas.Bool.Decides.nat_tests}
use Rattle.elf_image.specs.Image.{ProgramImage, in_code, has_code_word, word_of, word_now}

-- Four bytes that are the same make the same number.
word_of-same : (f g : ℕ → ℕ) (addr : ℕ) → f addr ≡ g addr → f (addr + 1) ≡ g (addr + 1)
    → f (addr + 2) ≡ g (addr + 2) → f (addr + 3) ≡ g (addr + 3) → word_of f addr ≡ word_of g addr
unfolding word_of
word_of-same f g addr first second third fourth = rw (first, second, third, fourth) refl

inside : (image : ProgramImage) (pc k : ℕ) → has_code_word image pc ≡ true → k < 4 → in_code image (pc + k) ≡ true
inside image pc k there less = grind (arith, nat_tests)

inside_first : (image : ProgramImage) (pc : ℕ) → has_code_word image pc ≡ true → in_code image pc ≡ true
inside_first image pc there = grind (arith, nat_tests)

-- Where they agree on its four bytes, they have the same word at a pc.
pub word_now-at : (image : ProgramImage) (f g : ℕ → ℕ) (pc : ℕ) → f pc ≡ g pc → f (pc + 1) ≡ g (pc + 1)
    → f (pc + 2) ≡ g (pc + 2) → f (pc + 3) ≡ g (pc + 3) → word_now image f pc ≡ word_now image g pc
unfolding word_now
word_now-at image f g pc first second third fourth =
    let word = word_of-same f g pc first second third fourth in rw word refl

-- Where they agree on the code, they have the same word at each pc.
pub word_now-kept : (image : ProgramImage) (f g : ℕ → ℕ) → ((a : ℕ) → in_code image a ≡ true → f a ≡ g a) → (pc : ℕ)
    → word_now image f pc ≡ word_now image g pc
unfolding word_now
word_now-kept image f g same pc =
    elim (cases_Bool (has_code_word image pc)) [
      | inl there ↦
          let word = word_of-same f g pc (same pc (inside_first image pc there))
          (same (pc + 1) (inside image pc 1 there (omega arith))) (same (pc + 2) (inside image pc 2 there (omega arith)))
          (same (pc + 3) (inside image pc 3 there (omega arith))) in
          rw (there, word) refl
      | inr none ↦ rw none refl
    ]

pub word_now-same : (image : ProgramImage) (f g : ℕ → ℕ) → ((a : ℕ) → f a ≡ g a) → (pc : ℕ)
    → word_now image f pc ≡ word_now image g pc
word_now-same image f g same pc = word_now-kept image f g (λ a inside_it. same a) pc
