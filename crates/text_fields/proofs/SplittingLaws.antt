-- A field without separators is cut off again, and the cut parts make the whole.

use Rattle.std.proofs.Common.{◌≡◌, ◌≢◌, ℕ, zero, suc, ◌+◌, ◌≤◌, Bool, true, false, ◌==◌, List, [], ◌∷◌, ◌++◌, refl, sym, ◌∙◌, ap}
use Rattle.std.proofs.Common.{arith}
use Rattle.std.proofs.{lemmas.Bool.Decides.nat_tests, lemmas.List.Sums.sum_by-cons}
use Rattle.std.specs.List.{position_or_len}
use Rattle.text_fields.specs.Splitting.{field, field_count, Lacks, rest}

pub field-empty : (s : ℕ) → field s [] ≡ []
unfolding field
field-empty s = refl

rest-empty : (s : ℕ) → rest s [] ≡ []
unfolding rest
rest-empty s = refl

count-empty : (s : ℕ) → field_count s [] ≡ 1
unfolding field_count
count-empty s = refl

-- what one more byte in front does: a separator, or another
pub field-separator : (s c : ℕ) (cs : List ℕ) → (c == s) ≡ true → field s (c ∷ cs) ≡ []
unfolding field
field-separator s c cs is = rw is refl

pub rest-separator : (s c : ℕ) (cs : List ℕ) → (c == s) ≡ true → rest s (c ∷ cs) ≡ cs
unfolding rest
rest-separator s c cs is = rw is refl

count-separator : (s c : ℕ) (cs : List ℕ) → (c == s) ≡ true → field_count s (c ∷ cs) ≡ suc (field_count s cs)
unfolding field_count
count-separator s c cs is = rw (sum_by-cons, is) (omega arith)

pub field-other : (s c : ℕ) (cs : List ℕ) → (c == s) ≡ false → field s (c ∷ cs) ≡ c ∷ field s cs
unfolding field
field-other s c cs is =
    let end : ℕ = position_or_len (λ byte. byte == s) cs in
    let more : 1 + end ≡ suc end = omega arith in
    rw (is, more) refl

pub rest-other : (s c : ℕ) (cs : List ℕ) → (c == s) ≡ false → rest s (c ∷ cs) ≡ rest s cs
unfolding rest
rest-other s c cs is =
    let end : ℕ = position_or_len (λ byte. byte == s) cs in
    let more : 1 + end + 1 ≡ suc (end + 1) = omega arith in
    rw (is, more) refl

count-other : (s c : ℕ) (cs : List ℕ) → (c == s) ≡ false → field_count s (c ∷ cs) ≡ field_count s cs
unfolding field_count
count-other s c cs is = rw (sum_by-cons, is) (omega arith)

-- a field alone, and before others
same_byte : (s : ℕ) → (s == s) ≡ true
same_byte s = grind (arith, nat_tests)

lacks_parts : (s c : ℕ) (cs : List ℕ) → Lacks s (c ∷ cs) → ((c == s) ≡ false) × Lacks s cs
lacks_parts s c cs lacks = (grind (arith, nat_tests), grind (arith, nat_tests))

pub field-cut : (s : ℕ) (first others : List ℕ) → Lacks s first → field s (first ++ s ∷ others) ≡ first
field-cut s [] others lacks = field-separator s s others (same_byte s)
field-cut s (c ∷ cs) others lacks =
    let parts = lacks_parts s c cs lacks in
    field-other s c (cs ++ s ∷ others) parts.0 ∙ ap (λ bs. c ∷ bs) (field-cut s cs others parts.1)

pub rest-cut : (s : ℕ) (first others : List ℕ) → Lacks s first → rest s (first ++ s ∷ others) ≡ others
rest-cut s [] others lacks = rest-separator s s others (same_byte s)
rest-cut s (c ∷ cs) others lacks =
    let parts = lacks_parts s c cs lacks in
    rest-other s c (cs ++ s ∷ others) parts.0 ∙ rest-cut s cs others parts.1

pub count-cut : (s : ℕ) (first others : List ℕ) → Lacks s first
    → field_count s (first ++ s ∷ others) ≡ suc (field_count s others)
count-cut s [] others lacks = count-separator s s others (same_byte s)
count-cut s (c ∷ cs) others lacks =
    let parts = lacks_parts s c cs lacks in
    count-other s c (cs ++ s ∷ others) parts.0 ∙ count-cut s cs others parts.1

pub field-alone : (s : ℕ) (first : List ℕ) → Lacks s first → field s first ≡ first
field-alone s [] lacks = field-empty s
field-alone s (c ∷ cs) lacks =
    let parts = lacks_parts s c cs lacks in
    field-other s c cs parts.0 ∙ ap (λ bs. c ∷ bs) (field-alone s cs parts.1)

pub rest-alone : (s : ℕ) (first : List ℕ) → Lacks s first → rest s first ≡ []
rest-alone s [] lacks = rest-empty s
rest-alone s (c ∷ cs) lacks =
    let parts = lacks_parts s c cs lacks in
    rest-other s c cs parts.0 ∙ rest-alone s cs parts.1

pub count-alone : (s : ℕ) (first : List ℕ) → Lacks s first → field_count s first ≡ 1
count-alone s [] lacks = count-empty s
count-alone s (c ∷ cs) lacks =
    let parts = lacks_parts s c cs lacks in
    count-other s c cs parts.0 ∙ count-alone s cs parts.1

-- the parts of any text, by what its first byte is
pub record Parts (s : ℕ) (text : List ℕ) : Type 0 where
  pub lacks : Lacks s (field s text)
  pub count : 1 ≤ field_count s text
  pub alone : field_count s text ≡ 1 → text ≡ field s text
  pub cut : 2 ≤ field_count s text → (text ≡ field s text ++ s ∷ rest s text)
      × (field_count s text ≡ suc (field_count s (rest s text)))

by_first : (b : Bool) (s c : ℕ) (cs : List ℕ) → (c == s) ≡ b → Parts s cs → Parts s (c ∷ cs)
by_first true s c cs is others =
    let first = field-separator s c cs is in
    let after = rest-separator s c cs is in
    let count = count-separator s c cs is in
    let same : c ≡ s = grind (arith, nat_tests) in
    let some = others.count in
    record {
      lacks = rw first refl;
      count = omega (arith, count);
      alone = λ one. absurd (omega (arith, count, one, some));
      cut = λ two. (rw (first, after, same) refl, rw (count, after) refl);
    }
by_first false s c cs is others =
    let first = field-other s c cs is in
    let after = rest-other s c cs is in
    let count = count-other s c cs is in
    record {
      lacks = rw (first, is) others.lacks;
      count = rw count others.count;
      alone = λ one. rw first (ap (λ bs. c ∷ bs) (others.alone (sym count ∙ one)));
      cut = λ two.
          let both = others.cut (rw count at two) in
          (rw (first, after) (ap (λ bs. c ∷ bs) both.0), rw (count, after) both.1);
    }

pub parts_of : (s : ℕ) (text : List ℕ) → Parts s text
parts_of s [] = record {
  lacks = rw field-empty refl;
  count = omega (arith, count-empty s);
  alone = λ one. sym (field-empty s);
  cut = λ two. absurd (omega (arith, count-empty s));
}
parts_of s (c ∷ cs) = by_first (c == s) s c cs refl (parts_of s cs)

-- a text that is cut: what stands behind the cut isn't nothing
pub cut_where : (s : ℕ) (text : List ℕ) → rest s text ≢ [] → text ≡ field s text ++ s ∷ rest s text
cut_where s text some = by_count (field_count s text) refl
  where
    parts : Parts s text
    parts = parts_of s text

    by_count : (n : ℕ) → field_count s text ≡ n → text ≡ field s text ++ s ∷ rest s text
    by_count zero is = let count = parts.count in absurd (omega (arith, count, is))
    by_count (suc zero) is =
        let whole : Lacks s text = rw (parts.alone is) parts.lacks in absurd (some (rest-alone s text whole))
    by_count (suc (suc n)) is = (parts.cut (omega (arith, is))).0

-- what is cut from a text that is put together
pub parts_at : (s : ℕ) (text first others : List ℕ) → text ≡ first ++ s ∷ others → Lacks s first
    → (field s text ≡ first) × (rest s text ≡ others)
parts_at s text first others is lacks =
    (rw is (field-cut s first others lacks), rw is (rest-cut s first others lacks))
