-- How many columns are lower than one, where they don't fall.
use Rattle.std.specs.Prelude.{◌≡◌, ℕ, zero, suc, ◌+◌, ◌-◌, ◌<◌, ◌≤◌, Bool, true, false, nat_le, nat_lt, List, length, take}
use Rattle.std.specs.List.{AllWithin, count_by}
use Rattle.std.specs.List.Sorted.{IsPartitionedBy, IsPartitionPoint}
use Rattle.std.proofs.Common.{get_or, refl, sym, ap, subst, ◌∙◌, arith, inl, inr}
use Rattle.std.proofs.lemmas.Bool.{cases_lt, Decides.nat_tests}
use Rattle.std.proofs.lemmas.Grind.{common_steps}
use Rattle.std.proofs.lemmas.List.{take_all}
use Rattle.std.proofs.lemmas.List.Sums.{count_by_more_no, count_by_more_yes}
use Rattle.chart_columns.specs.Tables.{IsTable}

module _ (p : ℕ → Bool) (xs : List ℕ) (i : ℕ) (inside : i ≤ length xs) where
  counted_to : (n : ℕ) → AllWithin (λ y. p y ≡ true) xs 0 i → n ≤ i → count_by p (take n xs) ≡ n
  counted_to zero all below = refl
  counted_to (suc n) all below =
      let more : suc n ≡ n + 1 = omega arith in
      ap (λ k. count_by p (take k xs)) more
      ∙ count_by_more_yes p xs n 0 (omega (arith, inside, below)) (all n 0 (omega arith) (omega (arith, below)))
      ∙ ap (λ k. k + 1) (counted_to n all (omega (arith, below))) ∙ sym more

  counted_on : (n : ℕ) → AllWithin (λ y. p y ≡ true) xs 0 i → AllWithin (λ y. p y ≡ false) xs i (length xs)
      → i + n ≤ length xs → count_by p (take (i + n) xs) ≡ i
  counted_on zero all none below =
      let same : i + 0 ≡ i = omega arith in
      ap (λ k. count_by p (take k xs)) same ∙ counted_to i all (omega arith)
  counted_on (suc n) all none below =
      let more : i + suc n ≡ i + n + 1 = omega arith in
      ap (λ k. count_by p (take k xs)) more
      ∙ count_by_more_no p xs (i + n) 0 (omega (arith, below)) (none (i + n) 0 (omega arith) (omega (arith, below)))
      ∙ counted_on n all none (omega (arith, below))

  pub counted : IsPartitionPoint (λ y. p y ≡ true) (λ y. p y ≡ false) xs i → i ≡ count_by p xs
  counted parted =
      let whole : i + (length xs - i) ≡ length xs = omega (arith, inside) in
      let end : length xs ≤ i + (length xs - i) = omega (arith, inside) in
      sym (ap (count_by p) (sym (take_all (i + (length xs - i)) xs end))
      ∙ counted_on (length xs - i) parted.0 parted.1 (omega (arith, whole)))

pub lower_first : (columns : List ℕ) (column : ℕ) → IsTable columns → IsPartitionedBy (λ y. nat_lt y column) columns
lower_first columns column table i j d least below is =
    let rises = table.rises i j d least below in grind (arith, nat_tests, rises, is)

pub reached_first : (columns : List ℕ) (column : ℕ) → IsTable columns → IsPartitionedBy (λ y. nat_le y column) columns
reached_first columns column table i j d least below is =
    let rises = table.rises i j d least below in grind (arith, nat_tests, rises, is)
