-- One more run in a tally.
use Rattle.std.proofs.Common.{◌≡◌, ℕ, suc, ◌+◌, ◌%◌, ◌^◌, ◌<◌, ◌≤◌, Bool, true, false, not, ◌||◌, refl, ap, sym, subst}
use Rattle.std.proofs.Common.{◌∙◌, if◌then◌else◌, List, [], ◌∷◌, ◌++◌, length, map, max, arith, inl, inr}
use Rattle.std.proofs.lemmas.List.{map-append}
use Rattle.std.specs.List.{list_any, filter}
use Rattle.std.proofs.lemmas.Bool.{cases_Bool, false≢true}
use Rattle.std.proofs.lemmas.List.Folds.{list_any-append}
use Rattle.std.proofs.Math.Nat.{mod-eq_of_lt}
use Rattle.smt_model.specs.{Basics.how_many}
use Rattle.report_lines.specs.Lines.{status_number}
use Rattle.stress_runs.specs.declared.tally.Row.{Row}
use Rattle.watched_outcomes.specs.Endings.{Ending}
use Rattle.stress_runs.specs.Ends.{same_end, ends_of, has_come, times_of, row_of, rows_of, worst_of, TallyView}
use Rattle.stress_runs.specs.Ends.{tally_of, Counts}
use Rattle.stress_runs.specs.Ends.{has_end, counting}
use Rattle.stress_runs.proofs.Same.{end_decides, end_turned}

or_false : (b : Bool) → (b || false) ≡ b
or_false true = refl
or_false false = refl

or_turned : (a b : Bool) → (a || b) ≡ (b || a)
or_turned true true = refl
or_turned true false = refl
or_turned false true = refl
or_turned false false = refl

-- An end that another end is has come where that one has.
come_same : (end other : Ending) (past : List Ending) → same_end other end ≡ true → has_come other past ≡ true
    → has_come end past ≡ true
come_same end other past same come = subst (λ e. has_come e past ≡ true) ((end_decides other end).0 same) come

-- One of the runs has ended so exactly where the end is among theirs.
module _ (end : Ending) where
  among_old : (one : Ending) (past : List Ending) → has_come one past ≡ true
      → has_come end past ≡ (same_end one end || has_come end past)
  among_old one past come = elim (cases_Bool (same_end one end)) [
    | inl same ↦ rw same (come_same end one past same come)
    | inr other ↦ rw other refl
  ]

  among_new : (one : Ending) (past : List Ending)
      → list_any (λ x. same_end x end) (ends_of past) ≡ has_come end past
      → list_any (λ x. same_end x end) (ends_of past ++ one ∷ []) ≡ (same_end one end || has_come end past)
  among_new one past before =
      list_any-append (λ x. same_end x end) (ends_of past) (one ∷ [])
      ∙ ap (λ b. b || (same_end one end || false)) before
      ∙ ap (λ b. has_come end past || b) (or_false (same_end one end))
      ∙ or_turned (has_come end past) (same_end one end)

  among : (past : List Ending) → list_any (λ x. same_end x end) (ends_of past) ≡ has_come end past
  among [] = refl
  among (one ∷ past) = elim (cases_Bool (has_come one past)) [
    | inl come ↦ rw come (among past ∙ among_old one past come)
    | inr new ↦ rw new (among_new one past (among past))
  ]

  any_row : (past ends : List Ending)
      → list_any (has_end end) (map (λ x. row_of past x) ends) ≡ list_any (λ x. same_end x end) ends
  any_row past [] = refl
  any_row past (x ∷ ends) = ap (λ b. same_end x end || b) (any_row past ends)

  has_row : (past : List Ending) → list_any (has_end end) (rows_of past) ≡ has_come end past
  has_row past = any_row past (ends_of past) ∙ among past

-- How many pass a test are no more than there are.
few_pass : (test : Ending → Bool) (xs : List Ending) → how_many test xs ≤ length xs
few_pass test [] = omega arith
few_pass test (x ∷ xs) =
    let rest = few_pass test xs in
    elim (cases_Bool (test x)) [ inl t ↦ rw t (omega arith) | inr f ↦ rw f (omega arith) ]

word : (n most limit : ℕ) → n ≤ most → most + 1 < limit → (n + 1) % limit ≡ suc n
word n most limit few small =
    let inside : n + 1 < limit = omega arith in
    let next : n + 1 ≡ suc n = omega arith in
    mod-eq_of_lt inside ∙ next

module _ (end : Ending) (past : List Ending) (small : length past + 1 < 2 ^ 32) where
  counted_row : (x : Ending) → counting end (row_of past x) ≡ row_of (end ∷ past) x
  counted_row x = elim (cases_Bool (same_end x end)) [
    | inl same ↦
        let turned : same_end end x ≡ true = end_turned end x ∙ same in
        rw (same, turned) (ap (λ (n : ℕ). record { end = x; count = n })
        (word (times_of past x) (length past) (2 ^ 32) (few_pass (λ one. same_end one x) past) small))
    | inr other ↦
        let turned : same_end end x ≡ false = end_turned end x ∙ other in
        rw (other, turned) refl
  ]

  counted_rows : (ends : List Ending)
      → map (counting end) (map (λ x. row_of past x) ends) ≡ map (λ x. row_of (end ∷ past) x) ends
  counted_rows [] = refl
  counted_rows (x ∷ ends) = rw (counted_row x, counted_rows ends) refl

  none_before : (runs : List Ending) → has_come end runs ≡ false → times_of runs end ≡ 0
  none_before [] new = refl
  none_before (x ∷ runs) new = elim (cases_Bool (same_end x end)) [
    | inl same ↦ absurd (false≢true (sym (rw same at new)))
    | inr other ↦ rw other (none_before runs (rw other at new))
  ]

  rows_again : has_come end past ≡ true → map (counting end) (rows_of past) ≡ rows_of (end ∷ past)
  rows_again come =
      let same : rows_of (end ∷ past) ≡ map (λ x. row_of (end ∷ past) x) (ends_of past) = rw come refl in
      counted_rows (ends_of past) ∙ sym same

  rows_first : has_come end past ≡ false
      → map (counting end) (rows_of past) ++ record { end = end; count = 1 } ∷ [] ≡ rows_of (end ∷ past)
  rows_first new =
      let all : rows_of (end ∷ past) ≡ map (λ x. row_of (end ∷ past) x) (ends_of past ++ end ∷ []) = rw new refl in
      let self : same_end end end ≡ true = (end_decides end end).1 refl in
      let once : times_of (end ∷ past) end ≡ 1 = rw self (ap suc (none_before past new)) in
      ap (λ rows. rows ++ record { end = end; count = 1 } ∷ []) (counted_rows (ends_of past))
      ∙ ap (λ (n : ℕ). map (λ x. row_of (end ∷ past) x) (ends_of past) ++ record { end = end; count = n } ∷ [])
      (sym once)
      ∙ sym (map-append (λ x. row_of (end ∷ past) x) (ends_of past) (end ∷ []))
      ∙ sym all

-- A tally that counted a run.
module _ (end : Ending) (old : TallyView) (rows : List Row) (status : ℕ)
    (worse : status ≡ max old.status (status_number end.statuses)) where
  is_tally : (past : List Ending) → old ≡ tally_of past → rows ≡ rows_of (end ∷ past)
      → record { rows = rows; status = status } ≡ tally_of (end ∷ past)
  is_tally past is same =
      let worst : status ≡ worst_of (end ∷ past) =
      worse ∙ ap (λ (t : TallyView). max t.status (status_number end.statuses)) is in
      rw (same, worst) refl

  pub counts_again : list_any (has_end end) old.rows ≡ true → rows ≡ map (counting end) old.rows
      → Counts end old (record { rows = rows; status = status })
  counts_again there is_rows = λ past small is.
      let come : has_come end past ≡ true =
      sym (has_row end past) ∙ ap (λ (t : TallyView). list_any (has_end end) t.rows) (sym is) ∙ there in
      is_tally past is (is_rows ∙ ap (λ (t : TallyView). map (counting end) t.rows) is ∙ rows_again end past small come)

  pub counts_first : list_any (has_end end) old.rows ≡ false
      → rows ≡ map (counting end) old.rows ++ record { end = end; count = 1 } ∷ []
      → Counts end old (record { rows = rows; status = status })
  counts_first none is_rows = λ past small is.
      let new : has_come end past ≡ false =
      sym (has_row end past) ∙ ap (λ (t : TallyView). list_any (has_end end) t.rows) (sym is) ∙ none in
      is_tally past is (is_rows
      ∙ ap (λ (t : TallyView). map (counting end) t.rows ++ record { end = end; count = 1 } ∷ []) is
      ∙ rows_first end past small new)

-- The same, of a tally whose parts are these: its rows have counted the run, and it is told whether one of
-- them is of its end.
module _ (e end : Ending) (old : TallyView) (was rows : List Row) (stood status number : ℕ) (there : Bool)
    (view : record { rows = was; status = stood } ≡ old) (same : e ≡ end)
    (counted : rows ≡ map (counting e) was) (told : there ≡ list_any (has_end e) was)
    (worst : status ≡ max stood number) (numbered : number ≡ status_number e.statuses) where
  was_is : was ≡ old.rows
  was_is = ap (λ (t : TallyView). t.rows) view

  worse_is : status ≡ max old.status (status_number end.statuses)
  worse_is =
      worst ∙ ap (λ n. max stood n) (numbered ∙ ap (λ (x : Ending). status_number x.statuses) same)
      ∙ ap (λ (t : TallyView). max t.status (status_number end.statuses)) view

  told_is : list_any (has_end end) old.rows ≡ there
  told_is =
      ap (λ (x : Ending). list_any (has_end x) old.rows) (sym same)
      ∙ ap (λ (rs : List Row). list_any (has_end e) rs) (sym was_is) ∙ sym told

  counted_is : rows ≡ map (counting end) old.rows
  counted_is =
      counted ∙ ap (λ (rs : List Row). map (counting e) rs) was_is
      ∙ ap (λ (x : Ending). map (counting x) old.rows) same

  pub counts_in_row : (new : List Row) → new ≡ rows → there ≡ true
      → Counts end old (record { rows = new; status = status })
  counts_in_row new is come = counts_again end old new status worse_is (told_is ∙ come) (is ∙ counted_is)

  pub counts_in_new : (new : List Row) (one : Ending) → new ≡ rows ++ record { end = one; count = 1 } ∷ [] → one ≡ e
      → there ≡ false → Counts end old (record { rows = new; status = status })
  counts_in_new new one is is_end none =
      counts_first end old new status worse_is (told_is ∙ none)
      (is ∙ ap (λ (rs : List Row). rs ++ record { end = one; count = 1 } ∷ []) counted_is
      ∙ ap (λ (x : Ending). map (counting end) old.rows ++ record { end = x; count = 1 } ∷ []) (is_end ∙ same))
