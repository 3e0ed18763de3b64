-- Halving finds the line of an address, or that none has it.
use Rattle.std.proofs.Common.{◌≡◌, ◌≢◌, ℕ, zero, suc, ◌+◌, ◌<◌, ◌≤◌, ◌==◌, nat_lt, Bool, true, false, List, [], ◌∷◌, length, get_or}
use Rattle.std.proofs.Common.{Some, None, refl, ap, subst, arith}
use Rattle.std.proofs.lemmas.List.{get_or_default}
use Rattle.std.proofs.lemmas.Bool.Decides.{nat_tests}
use Rattle.source_lines.specs.Lines.{AreRising, line_for, origin_of, origins_of}
use Rattle.source_lines.specs.declared.line.SourceLine.{SourceLine}

other : (a b : ℕ) → a ≢ b → (a == b) ≡ false
other a b apart = grind (arith, nat_tests)

same : (a b : ℕ) → a ≡ b → (a == b) ≡ true
same a b is = grind (arith, nat_tests)

tail_rises : (line : SourceLine) (lines : List SourceLine) → AreRising (origins_of (line ∷ lines)) → AreRising (origins_of lines)
tail_rises line lines rising i j d less inside = rising (suc i) (suc j) d (omega arith) (omega arith)

-- each later address is larger
pub rises : (lines : List SourceLine) (i j : ℕ) (d : SourceLine) → AreRising (origins_of lines) → i < j → j < length lines
    → (get_or lines i d).address < (get_or lines j d).address
rises [] i j d rising less inside = absurd (omega arith)
rises (line ∷ lines) zero zero d rising less inside = absurd (omega arith)
rises (line ∷ []) zero (suc j) d rising less inside = absurd (omega arith)
rises (line ∷ next ∷ lines) zero (suc zero) d rising less inside =
    rising 0 1 (origin_of d) (omega arith) (omega arith)
rises (line ∷ next ∷ lines) zero (suc (suc j)) d rising less inside =
    let first : line.address < next.address = rising 0 1 (origin_of d) (omega arith) (omega arith) in
    let others = rises (next ∷ lines) 0 (suc j) d (tail_rises line (next ∷ lines) rising) (omega arith) (omega arith) in
    omega (arith, first, others)
rises (line ∷ lines) (suc i) zero d rising less inside = absurd (omega arith)
rises (line ∷ lines) (suc i) (suc j) d rising less inside =
    rises lines i j d (tail_rises line lines rising) (omega arith) (omega arith)

pub found : (lines : List SourceLine) (k : ℕ) (d : SourceLine) (address : ℕ) → AreRising (origins_of lines)
    → k < length lines → (get_or lines k d).address ≡ address
    → line_for (origins_of lines) address ≡ Some (origin_of (get_or lines k d))
found [] k d address rising inside is = absurd (omega arith)
found (line ∷ lines) zero d address rising inside is = rw (same line.address address is) refl
found (line ∷ lines) (suc k) d address rising inside is =
    let below = rises (line ∷ lines) 0 (suc k) d rising (omega arith) inside in
    let apart : line.address ≢ address = λ at. omega (arith, below, is, at) in
    rw (other line.address address apart) (found lines k d address (tail_rises line lines rising) (omega arith) is)

pub none_has : (lines : List SourceLine) (address : ℕ)
    → ((k : ℕ) (d : SourceLine) → k < length lines → (get_or lines k d).address ≢ address)
    → line_for (origins_of lines) address ≡ None
none_has [] address none = refl
none_has (line ∷ lines) address none =
    rw (other line.address address (none 0 line (omega arith)))
    (none_has lines address (λ k d inside. none (suc k) d (omega arith)))

-- what is looked for lies from a place on and before another one
pub record LiesBetween (lines : List SourceLine) (address low high : ℕ) : Type 0 where
  pub order : low ≤ high
  pub end : high ≤ length lines
  pub below : (k : ℕ) (d : SourceLine) → k < low → (get_or lines k d).address < address
  pub above : (k : ℕ) (d : SourceLine) → high ≤ k → k < length lines → address < (get_or lines k d).address

pub at_first : (lines : List SourceLine) (address : ℕ) → LiesBetween lines address 0 (length lines)
at_first lines address = record {
  order = omega arith;
  end = omega arith;
  below = λ k d less. absurd (omega arith);
  above = λ k d more inside. absurd (omega arith);
}

up_to : (lines : List SourceLine) (k middle : ℕ) (d : SourceLine) → AreRising (origins_of lines) → k ≤ middle
    → middle < length lines → (get_or lines k d).address ≤ (get_or lines middle d).address
up_to lines k middle d rising low inside = by_order (k == middle) refl
  where
    by_order : (b : Bool) → (k == middle) ≡ b → (get_or lines k d).address ≤ (get_or lines middle d).address
    by_order true is =
        let at : k ≡ middle = grind (arith, nat_tests) in
        let equal : (get_or lines k d).address ≡ (get_or lines middle d).address = ap (λ n. (get_or lines n d).address) at in
        omega (arith, equal)
    by_order false is =
        let less : k < middle = grind (arith, nat_tests) in
        let under = rises lines k middle d rising less inside in
        omega (arith, under)

pub goes_up : (lines : List SourceLine) (address low high middle : ℕ) (d : SourceLine) → AreRising (origins_of lines)
    → LiesBetween lines address low high → low ≤ middle → middle < high → (get_or lines middle d).address < address
    → LiesBetween lines address (middle + 1) high
goes_up lines address low high middle d rising lies from until less =
    let end = lies.end in
    let inside : middle < length lines = omega (arith, end, until) in
    record {
      order = omega arith;
      end = end;
      below = λ k e under.
          let here = subst (λ (line : SourceLine). line.address < address) (get_or_default lines middle d e inside) less in
          let most = up_to lines k middle e rising (omega arith) inside in omega (arith, here, most);
      above = lies.above;
    }

pub goes_down : (lines : List SourceLine) (address low high middle : ℕ) (d : SourceLine) → AreRising (origins_of lines)
    → LiesBetween lines address low high → low ≤ middle → middle < high → (get_or lines middle d).address ≢ address
    → address ≤ (get_or lines middle d).address → LiesBetween lines address low middle
goes_down lines address low high middle d rising lies from until apart least =
    let end = lies.end in
    let inside : middle < length lines = omega (arith, end, until) in
    let more : address < (get_or lines middle d).address = omega (arith, apart, least) in
    record {
      order = from;
      end = omega (arith, end);
      below = lies.below;
      above = λ k e over within.
          let here = subst (λ (line : SourceLine). address < line.address) (get_or_default lines middle d e inside) more in
          let next = up_to lines middle k e rising over within in omega (arith, here, next);
    }

pub none_left : (lines : List SourceLine) (address low high : ℕ) → LiesBetween lines address low high → high ≤ low
    → line_for (origins_of lines) address ≡ None
none_left lines address low high lies closed = none_has lines address apart
  where
    by_side : (k : ℕ) (d : SourceLine) (b : Bool) → nat_lt k low ≡ b → k < length lines
        → (get_or lines k d).address ≢ address
    by_side k d true is inside at =
        let under : k < low = grind (arith, nat_tests) in
        let less = lies.below k d under in absurd (omega (arith, less, at))
    by_side k d false is inside at =
        let over : low ≤ k = grind (arith, nat_tests) in
        let more = lies.above k d (omega (arith, over, closed)) inside in absurd (omega (arith, more, at))

    apart : (k : ℕ) (d : SourceLine) → k < length lines → (get_or lines k d).address ≢ address
    apart k d inside = by_side k d (nat_lt k low) refl inside
