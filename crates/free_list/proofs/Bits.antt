-- The flag of a register, through the words: where it is read, and what setting or clearing one bit changes.
use Rattle.std.proofs.Common.{◌≡◌, ◌≢◌, ℕ, ◌+◌, ◌*◌, ◌/◌, ◌%◌, ◌^◌, ◌<◌, ◌≤◌, ◌==◌, ◌&&◌, ◌||◌, not, Bool, true, false}
use Rattle.std.proofs.Common.{List, length, map, get_or, set, bit_and, bit_or, refl, sym, ap, ◌∙◌, inl, inr, arith}
use Rattle.std.proofs.Common.{length-set, zero-add}
use Rattle.std.specs.List.{range_with_len}
use Rattle.std.specs.Int.{bit_at, bit_not, trailing_zeros, w64}
use Rattle.std.proofs.lemmas.Bool.{cases_lt, cases_eq, eq-eqb, ne_eqb, or_right, and_right, not_from_true}
use Rattle.std.proofs.lemmas.Bool.{not_from_false}
use Rattle.std.proofs.{lemmas.List.get_or_past, lemmas.List.get_or-set_same, lemmas.List.get_or-set_other}
use Rattle.std.proofs.{lemmas.List.FromFn.length-map-range_with_len, lemmas.List.FromFn.get_or-map-range_with_len}
use Rattle.std.proofs.{lemmas.Nat.mod_below}
use Rattle.std.proofs.lemmas.Nat.Bits.{bit_at-zero, shr_and_one, bit_at_set_same, bit_at_set_other, bit_at_clear_same}
use Rattle.std.proofs.lemmas.Nat.Bits.{bit_at_clear_other, bit_at-trailing_zeros}
use Rattle.numbers.specs.Sizes.{most_registers}
use Rattle.free_list.specs.Flags.{is_bit_set, word_count, flags, holds, IsLeast}

-- past the words no bit is set
pub is_set_past : (words : List ℕ) (p : ℕ) → length words ≤ p / 64 → is_bit_set words p ≡ false
is_set_past words p past = rw (get_or_past words (p / 64) 0 past, bit_at-zero)

pub holds-flags : (words : List ℕ) (p : ℕ) → length words ≡ word_count → holds (flags words) p ≡ is_bit_set words p
unfolding flags
holds-flags words p long =
    elim (cases_lt p most_registers) [
      | inl below ↦ get_or-map-range_with_len (is_bit_set words) 0 most_registers p p false below (zero-add p)
      | inr above ↦ get_or_past (map (is_bit_set words) (range_with_len 0 most_registers)) p false
          (omega (arith, length-map-range_with_len (is_bit_set words) 0 most_registers))
          ∙ sym (is_set_past words p (omega arith))
    ]

-- the words after the bit of p is set, and after it is cleared
abbrev pub with_bit : List ℕ → ℕ → List ℕ
with_bit words p = set words (p / 64) (bit_or (get_or words (p / 64) 0) (1 * 2 ^ (p % 64) % 2 ^ 64))

abbrev pub without_bit : List ℕ → ℕ → List ℕ
without_bit words p = set words (p / 64) (bit_and (get_or words (p / 64) 0) (bit_not w64 (1 * 2 ^ (p % 64) % 2 ^ 64)))

-- another register is of another word, or of another bit of the word
another_place : (p q : ℕ) → q ≢ p → q / 64 ≡ p / 64 → q % 64 ≢ p % 64
another_place p q other same e = other (omega arith)

is_set-with_bit_same : (words : List ℕ) (p : ℕ) → p / 64 < length words → is_bit_set (with_bit words p) p ≡ true
is_set-with_bit_same words p inside =
    let same = bit_at_set_same w64 (get_or words (p / 64) 0) (p % 64) (mod_below p 64 (omega arith)) in
    rw (get_or-set_same words (p / 64) _ 0 inside) (eq-eqb _ 1 same)

is_set-with_bit_other : (words : List ℕ) (p q : ℕ) → p / 64 < length words → q ≢ p
    → is_bit_set (with_bit words p) q ≡ is_bit_set words q
is_set-with_bit_other words p q inside other =
    elim (cases_eq (q / 64) (p / 64)) [
      | inl same ↦ let bit = bit_at_set_other w64 (get_or words (p / 64) 0) (p % 64) (mod_below p 64 (omega arith))
          (q % 64) (another_place p q other same) in
          rw (same, get_or-set_same words (p / 64) _ 0 inside) (ap (λ b. b == 1) bit)
      | inr apart ↦ rw (get_or-set_other words (p / 64) (q / 64) _ 0 apart)
    ]

or_false : (s t : Bool) → t ≡ false → s ≡ (s || t)
or_false true t e = refl
or_false false t e = sym e

and_true : (s t : Bool) → t ≡ true → s ≡ (s && t)
and_true true t e = sym e
and_true false t e = refl

is_set-with_bit : (words : List ℕ) (p q : ℕ) → p / 64 < length words
    → is_bit_set (with_bit words p) q ≡ (is_bit_set words q || (q == p))
is_set-with_bit words p q inside =
    elim (cases_eq q p) [
      | inl same ↦ let set_now : is_bit_set (with_bit words p) q ≡ true =
          rw same (is_set-with_bit_same words p inside) in
          set_now ∙ sym (or_right (is_bit_set words q) (q == p) (eq-eqb q p same))
      | inr other ↦ is_set-with_bit_other words p q inside other
          ∙ or_false (is_bit_set words q) (q == p) (ne_eqb q p other)
    ]

is_set-without_bit_same : (words : List ℕ) (p : ℕ) → p / 64 < length words → is_bit_set (without_bit words p) p ≡ false
is_set-without_bit_same words p inside =
    let cleared = bit_at_clear_same w64 (get_or words (p / 64) 0) (p % 64) (mod_below p 64 (omega arith)) in
    rw (get_or-set_same words (p / 64) _ 0 inside) (ap (λ b. b == 1) cleared)

is_set-without_bit_other : (words : List ℕ) (p q : ℕ) → p / 64 < length words → q ≢ p
    → is_bit_set (without_bit words p) q ≡ is_bit_set words q
is_set-without_bit_other words p q inside other =
    elim (cases_eq (q / 64) (p / 64)) [
      | inl same ↦ let bit = bit_at_clear_other w64 (get_or words (p / 64) 0) (p % 64) (mod_below p 64 (omega arith))
          (q % 64) (mod_below q 64 (omega arith)) (another_place p q other same) in
          rw (same, get_or-set_same words (p / 64) _ 0 inside) (ap (λ b. b == 1) bit)
      | inr apart ↦ rw (get_or-set_other words (p / 64) (q / 64) _ 0 apart)
    ]

is_set-without_bit : (words : List ℕ) (p q : ℕ) → p / 64 < length words
    → is_bit_set (without_bit words p) q ≡ (is_bit_set words q && not (q == p))
is_set-without_bit words p q inside =
    elim (cases_eq q p) [
      | inl same ↦ let clear_now : is_bit_set (without_bit words p) q ≡ false =
          rw same (is_set-without_bit_same words p inside) in
          clear_now ∙ sym (and_right (is_bit_set words q) (not (q == p)) (not_from_true (q == p) (eq-eqb q p same)))
      | inr other ↦ is_set-without_bit_other words p q inside other
          ∙ and_true (is_bit_set words q) (not (q == p)) (not_from_false (q == p) (ne_eqb q p other))
    ]

-- what `give` and `take_this` leave
pub holds-with_bit : (words : List ℕ) (p : ℕ) → length words ≡ word_count → p < most_registers → (q : ℕ)
    → holds (flags (with_bit words p)) q ≡ (holds (flags words) q || (q == p))
holds-with_bit words p long below q =
    let long' : length (with_bit words p) ≡ word_count =
    omega (arith, length-set words (p / 64) (bit_or (get_or words (p / 64) 0) (1 * 2 ^ (p % 64) % 2 ^ 64))) in
    rw (holds-flags (with_bit words p) q long', holds-flags words q long) (is_set-with_bit words p q (omega arith))

pub holds-without_bit : (words : List ℕ) (p : ℕ) → length words ≡ word_count → p < most_registers → (q : ℕ)
    → holds (flags (without_bit words p)) q ≡ (holds (flags words) q && not (q == p))
holds-without_bit words p long below q =
    let long' : length (without_bit words p) ≡ word_count =
    omega (
      arith,
      length-set words (p / 64) (bit_and (get_or words (p / 64) 0) (bit_not w64 (1 * 2 ^ (p % 64) % 2 ^ 64))),
    ) in
    rw (holds-flags (without_bit words p) q long', holds-flags words q long)
    (is_set-without_bit words p q (omega arith))

-- the test of one bit, as the code makes it
pub holds-read : (words : List ℕ) (p i word : ℕ) → length words ≡ word_count → i ≡ p / 64 → word ≡ get_or words i 0
    → (bit_and (word / 2 ^ (p % 64)) 1 == 1) ≡ holds (flags words) p
holds-read words p i word long at reads =
    let reads_there : word ≡ get_or words (p / 64) 0 = reads ∙ ap (λ k. get_or words k 0) at in
    ap (λ b. b == 1) (shr_and_one word (p % 64)) ∙ ap (λ w. bit_at w (p % 64) == 1) reads_there
    ∙ sym (holds-flags words p long)

is_set_of_zero : (words : List ℕ) (p : ℕ) → get_or words (p / 64) 0 ≡ 0 → is_bit_set words p ≡ false
is_set_of_zero words p zero_word = rw (zero_word, bit_at-zero)

-- no word has a bit
pub holds-none : (words : List ℕ) → length words ≡ word_count → ((k : ℕ) → k < word_count → get_or words k 0 ≡ 0) → (q : ℕ)
    → holds (flags words) q ≡ false
holds-none words long none q =
    holds-flags words q long ∙ elim (cases_lt (q / 64) word_count) [
      | inl inside ↦ is_set_of_zero words q (none (q / 64) inside)
      | inr past ↦ is_set_past words q (omega arith)
    ]

-- the lowest bit of the first word that isn't 0
module _ (words : List ℕ) (i t : ℕ) (long : length words ≡ word_count) (inside : i < word_count) (small : t < 64) where
  quotient : (64 * i + t) / 64 ≡ i
  quotient = omega arith

  remainder : (64 * i + t) % 64 ≡ t
  remainder = omega arith

  is_free_there : bit_at (get_or words i 0) t ≡ 1 → holds (flags words) (64 * i + t) ≡ true
  is_free_there one =
      holds-flags words (64 * i + t) long ∙ rw (quotient, remainder) (eq-eqb (bit_at (get_or words i 0) t) 1 one)

  none_below : ((k : ℕ) → k < i → get_or words k 0 ≡ 0) → ((k : ℕ) → k < t → bit_at (get_or words i 0) k ≡ 0)
      → (q : ℕ) → q < 64 * i + t → holds (flags words) q ≡ false
  none_below none lower q below =
      holds-flags words q long ∙ elim (cases_lt (q / 64) i) [
        | inl before ↦ is_set_of_zero words q (none (q / 64) before)
        | inr from_there ↦ let same : q / 64 ≡ i = omega arith in
            rw same (ap (λ b. b == 1) (lower (q % 64) (omega arith)))
      ]

pub IsLeast-lowest : (words : List ℕ) (i word : ℕ) → length words ≡ word_count → i < word_count → word ≡ get_or words i 0 → 0 < word
    → word < 2 ^ 64
    → ((k : ℕ) → k < i → get_or words k 0 ≡ 0) → IsLeast (flags words) (64 * i + trailing_zeros w64 word)
IsLeast-lowest words i word long inside reads some fits none =
    let lowest = bit_at-trailing_zeros w64 word some fits in
    record {
      range = omega (arith, lowest.0);
      is_free = is_free_there words i (trailing_zeros w64 word) long inside lowest.0 (rw (← reads) lowest.1);
      least = none_below words i (trailing_zeros w64 word) long inside lowest.0 none (rw (← reads) lowest.2);
    }
