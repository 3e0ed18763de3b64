-- What memory has at a pc is found there.
use Rattle.std.proofs.Common.{◌≡◌, ℕ, ◌+◌, ◌-◌, ◌*◌, ◌/◌, ◌%◌, ◌<◌, ◌≤◌, Bool, true, false, List, [], ◌∷◌, ◌++◌}
use Rattle.std.proofs.Common.{length, None, refl, subst, arith, inl, inr}
use Rattle.std.specs.Prelude.{◌==◌, ◌&&◌, nat_le, slice_index_or, if◌then◌else◌}
use Rattle.std.specs.List.{slice_get}
use Rattle.std.proofs.lemmas.Bool.{cases_lt}
use Rattle.std.proofs.lemmas.Bool.Decides.{nat_tests}
use Rattle.std.proofs.lemmas.List.{length_push}
use Rattle.std.proofs.lemmas.Option.{slice_get_cases}
use Rattle.std.proofs.{Math.ListN.get_or-append, Math.Seq.get_or-append_seam}
use Rattle.elf_image.specs.Image.{ProgramImage, code_start, code_size, has_code_word, word_now, byte_in}
use Rattle.decoded_code.specs.{Code.IsFetched, Code.IsFound, Code.IsCodeOf, Code.found_at}
use Rattle.decoded_code.specs.{declared.code.Code.Code, declared.code.Fetched.Fetched}

-- These are memory's words from the address `start` on, decoded.
abbrev pub AreFetched : ProgramImage → (ℕ → ℕ) → ℕ → List Fetched → Type 0
AreFetched image bytes start xs =
    (i : ℕ) (d : Fetched) → i < length xs → IsFetched image bytes (start + 4 * i) (slice_index_or xs i d)

pub fetched_more : (image : ProgramImage) (bytes : ℕ → ℕ) (start : ℕ) (xs : List Fetched) (x : Fetched)
    → IsFetched image bytes (start + 4 * length xs) x → AreFetched image bytes start xs
    → AreFetched image bytes start (xs ++ x ∷ [])
fetched_more image bytes start xs x is all i d inside =
    elim (cases_lt i (length xs)) [
      | inl under ↦ let same = get_or-append xs (x ∷ []) d i under in rw same (all i d under)
      | inr above ↦
          let last : i ≡ length xs = omega (arith, length_push xs x) in rw last (rw get_or-append_seam is)
    ]

-- Where an address is no multiple of 4 from the start on, or behind the last word, there is no word.
before : (image : ProgramImage) (start pc : ℕ) → start ≡ code_start image → start % 4 ≡ 0
    → (nat_le start pc && ((pc - start) % 4 == 0)) ≡ false → has_code_word image pc ≡ false
before image start pc at aligned none = grind (arith, nat_tests)

behind : (image : ProgramImage) (start pc count : ℕ) → start ≡ code_start image → 4 * count ≡ code_size image
    → count ≤ (pc - start) / 4 → has_code_word image pc ≡ false
behind image start pc count at size past = grind (arith, nat_tests)

no_word : (image : ProgramImage) (bytes : ℕ → ℕ) (pc : ℕ) → has_code_word image pc ≡ false
    → word_now image bytes pc ≡ None
unfolding word_now
no_word image bytes pc none = rw none refl

module _ (image : ProgramImage) (bytes : ℕ → ℕ) (code : Code) (is : IsCodeOf image bytes code) where
  within : (pc : ℕ) → (nat_le code.start pc && ((pc - code.start) % 4 == 0)) ≡ true
      → IsFound image bytes pc (slice_get code.words.items ((pc - code.start) / 4))
  within pc here =
      let i = (pc - code.start) / 4 in
      elim (slice_get_cases code.words.items i).1 [
        | inl (x, inside, some, same) ↦
            let place : code.start + 4 * i ≡ pc = grind (arith, nat_tests) in
            rw some (subst (λ at. IsFetched image bytes at x) place
            (subst (IsFetched image bytes (code.start + 4 * i)) same (is.each i x inside)))
        | inr (past, none) ↦
            rw none (no_word image bytes pc
            (behind image code.start pc (length code.words.items) is.start is.size past))
      ]

  by_place : (pc : ℕ) (here : Bool) → (nat_le code.start pc && ((pc - code.start) % 4 == 0)) ≡ here
      → IsFound image bytes pc (if here then slice_get code.words.items ((pc - code.start) / 4) else None)
  by_place pc true so = within pc so
  by_place pc false so = no_word image bytes pc (before image code.start pc is.start is.aligned so)

  pub found : (pc : ℕ) → IsFound image bytes pc (found_at code.words.items code.start pc)
  found pc = by_place pc _ refl
