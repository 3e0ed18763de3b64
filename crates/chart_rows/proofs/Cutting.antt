-- The rows that a squash has cut so far.
use Rattle.std.specs.Prelude.{◌≡◌, ℕ, ◌+◌, ◌<◌, ◌≤◌, true, false, nat_lt, if◌then◌else◌, List, length, set}
use Rattle.std.proofs.Common.{get_or, refl, sym, ap, ◌∙◌, arith, inl, inr}
use Rattle.std.proofs.{lemmas.Bool.Decides.nat_tests, lemmas.Bool.cases_eq}
use Rattle.std.proofs.lemmas.List.{length-set, get_or-set_same, get_or-set_other}
use Rattle.std.proofs.lemmas.Grind.{common_steps}
use Rattle.chart_rows.specs.{declared.row.Row.Row, declared.row.Squash.Squash, Moves.cut, Moves.AreCut}

pub record AreCutBelow (at first hart : ℕ) (by : Squash) (old new : List Row) : Type 0 where
  pub count : length new ≡ length old
  pub done : (k : ℕ) (d : Row) → k < at → k < length old
      → get_or new k d ≡ (if nat_lt k first then get_or old k d else cut hart by (get_or old k d))
  pub rest : (k : ℕ) (d : Row) → at ≤ k → get_or new k d ≡ get_or old k d

pub none_cut : (first hart : ℕ) (by : Squash) (rows : List Row) → AreCutBelow first first hart by rows rows
none_cut first hart by rows = record {
  count = refl;
  done = λ k d under inside. let less : nat_lt k first ≡ true = grind (arith, nat_tests) in rw less refl;
  rest = λ k d above. refl;
}

-- The row there is the next one, whatever stands for one that isn't there.
cut_here : (at first hart : ℕ) (by : Squash) (old new : List Row) (row : Row) (k : ℕ) (d : Row) → k ≡ at → first ≤ at
    → at < length old → AreCutBelow at first hart by old new → row ≡ cut hart by (get_or new at row)
    → get_or (set new at row) k d ≡ (if nat_lt k first then get_or old k d else cut hart by (get_or old k d))
cut_here at first hart by old new row k d here from inside was is =
    let above : nat_lt k first ≡ false = grind (arith, nat_tests) in
    let there : at < length new = let count = was.count in omega arith in
    let same : get_or old k row ≡ get_or old k d = grind (arith, common_steps) in
    let old_is : get_or new at row ≡ get_or old k d =
    was.rest at row (omega arith) ∙ (ap (λ n. get_or old n row) (sym here) ∙ same) in
    rw (above, here) (get_or-set_same new at row d there ∙ (is ∙ ap (cut hart by) (rw here at old_is)))

pub more_cut : (at first hart : ℕ) (by : Squash) (old new : List Row) (row : Row) → first ≤ at → at < length old
    → AreCutBelow at first hart by old new → row ≡ cut hart by (get_or new at row)
    → AreCutBelow (at + 1) first hart by old (set new at row)
more_cut at first hart by old new row from inside was is = record {
  count = length-set new at row ∙ was.count;
  done = λ k d under there.
      elim (cases_eq k at) [
        | inl here ↦ cut_here at first hart by old new row k d here from inside was is
        | inr other ↦
            get_or-set_other new at k row d other ∙ was.done k d (omega arith) there
      ];
  rest = λ k d above.
      let other : (k ≡ at → ⊥) = λ same. omega arith in
      get_or-set_other new at k row d other ∙ was.rest k d (omega arith);
}

pub all_cut : (at first hart : ℕ) (by : Squash) (old new : List Row) → length new ≤ at
    → AreCutBelow at first hart by old new → AreCut first hart by old new
all_cut at first hart by old new end was = record {
  count = was.count;
  each = λ k d inside. was.done k d (let count = was.count in omega arith) inside;
}
