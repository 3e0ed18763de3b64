use Rattle.std.proofs.Common.{◌≡◌, ℕ, suc, ◌+◌, ◌-◌, ◌*◌, ◌%◌, ◌^◌, ◌<◌, ◌≤◌, true, cond}
use Rattle.std.proofs.Common.{List, ◌++◌, Ok, Err, ℤ}
use Rattle.std.proofs.Common.{pos, negsuc, neg_ℤ, ◌+ℤ◌, ◌-ℤ◌, inl, inr, refl, sym, ◌∙◌, ap, subst, arith}
use Rattle.std.proofs.Common.{lit<}
use Rattle.std.specs.Prelude.{◌≤ℤ◌, ◌<ℤ◌, unsigned_abs}
use Rattle.std.specs.{Char.is_ascii_hexdigit}
use Rattle.std.proofs.lemmas.Bool.{cases_lt, le-ltb}
use Rattle.std.proofs.{lemmas.Bool.Decides.nat_tests, lemmas.Int.ints}
use Rattle.std.proofs.{lemmas.Int.int_rem_euclid_is}
use Rattle.rv_word.specs.Word.{signed, word_of, difference_of}
use Rattle.rv_text.specs.{declared.refused.TextRefused.TheVariants.OutOfRange}
use Rattle.rv_text.specs.Spelling.{hex_text, target_of}
use Rattle.rv_text.specs.Reading.{hex_at, distance_of}
use Rattle.rv_text.specs.Reading.{is_distance, target_at}
use Rattle.rv_text.proofs.FieldLaws.{bind_ok, guard_ok, IsField, EndsAt, hex_is}

-- ---- targets

-- an even distance that a jump may have
abbrev pub IsWithin : ℕ → ℤ → Type 0
IsWithin bound z = ((neg_ℤ (pos bound) ≤ℤ z) × (z <ℤ pos bound)) × (unsigned_abs z % 2 ≡ 0)

is_distance-only : (bound : ℕ) (z : ℤ) → is_distance bound z ≡ true → IsWithin bound z
unfolding is_distance
is_distance-only bound (pos n) e =
    let low : n < bound = grind (arith, nat_tests) in
    let even : n % 2 ≡ 0 = grind (arith, nat_tests) in
    ((omega (arith, ints), omega (arith, ints)), even)
is_distance-only bound (negsuc n) e =
    let low : n < bound = grind (arith, nat_tests) in
    let even : suc n % 2 ≡ 0 = grind (arith, nat_tests) in
    ((omega (arith, ints), omega (arith, ints)), even)

is_distance-true : (bound : ℕ) (z : ℤ) → IsWithin bound z → is_distance bound z ≡ true
unfolding is_distance
is_distance-true bound (pos n) ((low, high), even) =
    let below : n < bound = omega (arith, ints) in
    grind (arith, nat_tests)
is_distance-true bound (negsuc n) ((low, high), even) =
    let below : n < bound = omega (arith, ints) in
    grind (arith, nat_tests)

-- a whole number from -2 ^ 32 up, as a word
word_of_is : (z : ℤ) (m : ℕ) → z +ℤ pos (1 * 2 ^ 32) ≡ pos m → word_of z ≡ m % 2 ^ 32
word_of_is z m e = ap unsigned_abs (int_rem_euclid_is z (pos (2 ^ 32)) (2 ^ 32) 1 m (lit< tt) refl e)

difference_is : (a b : ℕ) → b < 2 ^ 32 → difference_of a b ≡ (a + (2 ^ 32 - b)) % 2 ^ 32
unfolding difference_of
difference_is a b low = word_of_is (pos a -ℤ pos b) (a + (2 ^ 32 - b)) (omega (arith, ints))

target_is_sum : (pc : ℕ) (z : ℤ) (m : ℕ) → pos pc +ℤ z +ℤ pos (1 * 2 ^ 32) ≡ pos m → target_of pc z ≡ m % 2 ^ 32
unfolding target_of
target_is_sum pc z m e = word_of_is (pos pc +ℤ z) m e

word_of-low : (z : ℤ) → word_of z < 2 ^ 32
word_of-low (pos n) = omega arith
word_of-low (negsuc n) = omega arith

target_of-low : (pc : ℕ) (z : ℤ) → target_of pc z < 2 ^ 32
unfolding target_of
target_of-low pc z = word_of-low (pos pc +ℤ z)

-- a word of the upper half is a number below 0
signed_of-high : (d : ℕ) → 2 ^ 31 ≤ d → signed d ≡ negsuc (2 ^ 32 - suc d)
signed_of-high d high = rw (le-ltb d (2 ^ 31) high) refl

-- where a jump by a signed word goes
target_of-signed : (pc d : ℕ) → d < 2 ^ 32 → target_of pc (signed d) ≡ (pc + d) % 2 ^ 32
target_of-signed pc d low =
    elim (cases_lt d (2 ^ 31)) [
      | inl small ↦ let sum = target_is_sum pc (signed d) (pc + d + 2 ^ 32) (omega (arith, ints)) in omega (arith, sum)
      | inr large ↦ let is = signed_of-high d large in let sum =
          target_is_sum pc (signed d) (pc + d) (omega (arith, ints, is)) in omega (arith, sum)
    ]

target_of-distance : (pc target : ℕ) → pc < 2 ^ 32 → target < 2 ^ 32 → target_of pc (distance_of pc target) ≡ target
unfolding distance_of
target_of-distance pc target here there =
    let d = difference_is target pc here in
    let jump = target_of-signed pc (difference_of target pc) (omega (arith, d)) in
    omega (arith, d, jump)

distance_at : (pc target d : ℕ) (z : ℤ) → pc < 2 ^ 32 → (target + (2 ^ 32 - pc)) % 2 ^ 32 ≡ d → signed d ≡ z
    → distance_of pc target ≡ z
unfolding distance_of
distance_at pc target d z here e is = ap signed (difference_is target pc here ∙ e) ∙ is

distance_of-target : (bound pc : ℕ) (z : ℤ) → bound ≤ 2 ^ 31 → pc < 2 ^ 32 → IsWithin bound z
    → distance_of pc (target_of pc z) ≡ z
distance_of-target bound pc (pos n) small here ((low, high), even) =
    let sum = target_is_sum pc (pos n) (pc + n + 2 ^ 32) (omega (arith, ints)) in
    distance_at pc (target_of pc (pos n)) n (pos n) here (omega (arith, ints, sum)) (omega (arith, ints))
distance_of-target bound pc (negsuc n) small here ((low, high), even) =
    let sum = target_is_sum pc (negsuc n) (pc + (2 ^ 32 - suc n)) (omega (arith, ints)) in
    distance_at pc (target_of pc (negsuc n)) (2 ^ 32 - suc n) (negsuc n) here (omega (arith, ints, sum))
    (signed_of-high (2 ^ 32 - suc n) (omega (arith, ints)) ∙ ap negsuc (omega (arith, ints)))

target_takes : (bound pc : ℕ) → pc < 2 ^ 32 → (text : List ℕ) (x : ℤ × List ℕ) → target_at bound pc text ≡ Ok x
    → (text ≡ hex_text 8 (target_of pc x.0) ++ x.1) × IsWithin bound x.0
unfolding target_at
target_takes bound pc here text x e =
    let a =
    bind_ok (hex_at 8 text)
    (λ target. cond (is_distance bound (distance_of pc target.0)) (Ok (distance_of pc target.0, target.1))
    (Err OutOfRange)) x e in
    let g = guard_ok (is_distance bound (distance_of pc a.0.0)) OutOfRange (distance_of pc a.0.0, a.0.1) x a.2 in
    let taken = (hex_is 8).takes text a.0 a.1 in
    let same = target_of-distance pc a.0.0 here taken.1 in
    let spelled : text ≡ hex_text 8 (target_of pc (distance_of pc a.0.0)) ++ a.0.1 =
    taken.0 ∙ ap (λ (n : ℕ). hex_text 8 n ++ a.0.1) (sym same) in
    subst (λ (y : ℤ × List ℕ). (text ≡ hex_text 8 (target_of pc y.0) ++ y.1) × IsWithin bound y.0) g.1
    (spelled, is_distance-only bound (distance_of pc a.0.0) g.0)

target_again : (bound pc : ℕ) → bound ≤ 2 ^ 31 → pc < 2 ^ 32 → (z : ℤ) (rest : List ℕ) → IsWithin bound z
    → EndsAt is_ascii_hexdigit rest →
    target_at bound pc (hex_text 8 (target_of pc z) ++ rest) ≡ Ok (z, rest)
unfolding target_at
target_again bound pc small here z rest within ends =
    let same = distance_of-target bound pc z small here within in
    let fits = is_distance-true bound z within in
    rw ((hex_is 8).again (target_of pc z) rest (target_of-low pc z) ends, same, fits) refl

pub target_is : (bound pc : ℕ) → bound ≤ 2 ^ 31 → pc < 2 ^ 32
    → IsField (λ z. hex_text 8 (target_of pc z)) (IsWithin bound) (EndsAt is_ascii_hexdigit) (target_at bound pc)
target_is bound pc small here = record { takes = target_takes bound pc here; again = target_again bound pc small here }
