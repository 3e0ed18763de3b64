-- Numbers of harts, written one after the other.
use Rattle.std.specs.Prelude.{◌≡◌, ℕ, ◌+◌, ◌<◌, ◌≤◌, List, length, set}
use Rattle.std.proofs.Common.{get_or, sym, ap, ◌∙◌, arith, inl, inr}
use Rattle.std.proofs.lemmas.Bool.{cases_eq}
use Rattle.std.proofs.lemmas.List.{length-set, get_or-set_same, get_or-set_other}
use Rattle.numbers.specs.Sizes.{most_harts}
use Rattle.chart_counters.specs.Counters.{AreByHart, of_hart}

-- Those of the first n harts are written.
pub record AreWritten (n harts : ℕ) (number : ℕ → ℕ) (counts : List ℕ) : Type 0 where
  pub count : length counts ≡ most_harts
  pub each : (h d : ℕ) → h < n → get_or counts h d ≡ of_hart harts number h

pub none_written : (harts : ℕ) (number : ℕ → ℕ) (counts : List ℕ) → length counts ≡ most_harts
    → AreWritten 0 harts number counts
none_written harts number counts count = record { count = count; each = λ h d under. absurd (omega (arith, under)) }

written_there : (n harts : ℕ) (number : ℕ → ℕ) (counts : List ℕ) (value h d : ℕ) → n < length counts → h ≡ n
    → value ≡ of_hart harts number n → get_or (set counts n value) h d ≡ of_hart harts number h
written_there n harts number counts value h d there same is =
    ap (λ x. get_or (set counts n value) x d) same
    ∙ (get_or-set_same counts n value d there ∙ (is ∙ ap (of_hart harts number) (sym same)))

pub one_more : (n harts : ℕ) (number : ℕ → ℕ) (counts : List ℕ) (value : ℕ) → n < most_harts
    → AreWritten n harts number counts → value ≡ of_hart harts number n
    → AreWritten (n + 1) harts number (set counts n value)
one_more n harts number counts value inside were is =
    let count = were.count in
    let there : n < length counts = omega arith in
    record {
      count = length-set counts n value ∙ count;
      each = λ h d under.
          elim (cases_eq h n) [
            | inl same ↦ written_there n harts number counts value h d there same is
            | inr other ↦ get_or-set_other counts n h value d other ∙ were.each h d (omega arith)
          ];
    }

pub all_written : (n harts : ℕ) (number : ℕ → ℕ) (counts : List ℕ) → most_harts ≤ n
    → AreWritten n harts number counts → AreByHart harts number counts
all_written n harts number counts end were = record {
  count = were.count;
  each = λ h d under. were.each h d (omega (arith, end, under));
}
