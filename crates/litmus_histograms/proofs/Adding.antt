-- The counts of a histogram add up.
use Rattle.std.proofs.Common.{◌≡◌, ◌≢◌, ℕ, suc, ◌+◌, ◌<◌, ◌≤◌, Bool, true, false, ◌&&◌, ◌||◌, not, if◌then◌else◌, refl, ap, sym}
use Rattle.std.proofs.Common.{◌∙◌, arith, inl, inr, List, [], ◌∷◌, length, get_or, AllPairs, Contains}
use Rattle.std.specs.Prelude.{sum_by}
use Rattle.std.specs.{List.AllByRecursion, List.list_any}
use Rattle.std.proofs.lemmas.Bool.{cases_Bool, false≢true}
use Rattle.std.proofs.lemmas.List.Folds.{Any-from_list_any}
use Rattle.smt_model.specs.{Basics.how_many, Basics.total}
use Rattle.outcomes.specs.{Found.Told}
use Rattle.watched_outcomes.specs.Endings.{Ending}
use Rattle.stress_runs.specs.Ends.{same_end}
use Rattle.stress_runs.proofs.Same.{end_decides}
use Rattle.litmus_tests.specs.declared.test.LitmusTest.{LitmusTest}
use Rattle.litmus_histograms.specs.{Kinds.is_held, Kinds.is_kind, Kinds.is_over, Kinds.is_passed, Counting.in_runs}
use Rattle.litmus_histograms.specs.{Sums.AddsUp, Sums.line_count, Text.runs_of}
use Rattle.litmus_histograms.specs.declared.kinds.RunKind.TheVariants.{Held, Other, LeftOut, NotEnded}
use Rattle.litmus_histograms.proofs.Rows.{how_more, one, sum_is_total, total_plus}

-- ---- By their kinds

one_kind : (over passed held : Bool) → one (over && (passed && held)) + one (over && (passed && not held))
    + one (over && not passed) + one (not over) ≡ 1
one_kind true true true = refl
one_kind true true false = refl
one_kind true false held = refl
one_kind false passed held = refl

two_kinds : (over passed held : Bool)
    → one (over && (passed && held)) + one (over && (passed && not held)) ≡ one (over && passed)
two_kinds true true true = refl
two_kinds true true false = refl
two_kinds true false held = refl
two_kinds false passed held = refl

module _ (test : LitmusTest) where
  pub kinds_add : (ends : List Ending) → in_runs ends (is_kind test Held) + in_runs ends (is_kind test Other)
      + in_runs ends (is_kind test LeftOut) + in_runs ends (is_kind test NotEnded) ≡ length ends
  kinds_add [] = refl
  kinds_add (e ∷ ends) =
      let before = kinds_add ends in
      let held = how_more (is_kind test Held) e ends in
      let other = how_more (is_kind test Other) e ends in
      let left_out = how_more (is_kind test LeftOut) e ends in
      let not_ended = how_more (is_kind test NotEnded) e ends in
      let here = one_kind (is_over e) (is_passed test e) (is_held test e) in
      omega (arith, before, held, other, left_out, not_ended, here)

-- ---- By their states

-- What a run adds to the line of a state that has ended as e.
abbrev hit : Ending → ℕ → Told → ℕ
hit e n told = if same_end e told.ending then n else 0

-- A run adds to the one state as which it has ended, if one is listed; else to none.
module _ (e : Ending) (n : ℕ) where
  no_hit : (listed : List Told) → list_any (λ (told : Told). same_end e told.ending) listed ≡ false
      → total (hit e n) listed ≡ 0
  no_hit [] none = refl
  no_hit (told ∷ listed) none = elim (cases_Bool (same_end e told.ending)) [
    | inl same ↦ absurd (false≢true (sym (rw same at none)))
    | inr other ↦
        let rest = no_hit listed (rw other at none) in
        rw other (omega (arith, rest))
  ]

  others : (told : Told) (listed : List Told) → AllPairs (λ (a b : Told). a.ending ≢ b.ending) (told ∷ listed)
      → same_end e told.ending ≡ true → list_any (λ (t : Told). same_end e t.ending) listed ≡ false
  others told listed apart same = elim (cases_Bool (list_any (λ (t : Told). same_end e t.ending) listed)) [
    | inl some ↦
        let other = Any-from_list_any (λ (t : Told). same_end e t.ending) listed some in
        let first : e ≡ told.ending = (end_decides e told.ending).0 same in
        let second : e ≡ other.1.ending = (end_decides e other.1.ending).0 other.4 in
        let alike : told.ending ≡ other.1.ending = sym first ∙ second in
        absurd (differ told listed apart other.0 other.1 other.2 other.3 alike)
    | inr none ↦ none
  ]
    where
      differ : (told : Told) (listed : List Told)
          → AllPairs (λ (a b : Told). a.ending ≢ b.ending) (told ∷ listed)
          → (k : ℕ) (t : Told) → k < length listed → get_or listed k t ≡ t → told.ending ≡ t.ending → ⊥
      differ told listed apart k t below is same =
          apart 0 (suc k) t (omega arith) (omega (arith, below)) (same ∙ ap (λ (x : Told). x.ending) (sym is))

  one_hit : (listed : List Told) → AllPairs (λ (a b : Told). a.ending ≢ b.ending) listed
      → list_any (λ (told : Told). same_end e told.ending) listed ≡ true → total (hit e n) listed ≡ n
  one_hit [] apart some = absurd (false≢true some)
  one_hit (told ∷ listed) apart some = elim (cases_Bool (same_end e told.ending)) [
    | inl same ↦
        let none = no_hit listed (others told listed apart same) in
        rw same (omega (arith, none))
    | inr other ↦
        let apart_here : AllPairs (λ (a b : Told). a.ending ≢ b.ending) listed =
        λ i j d less below. apart (suc i) (suc j) d (omega (arith, less)) (omega (arith, below)) in
        let rest = one_hit listed apart_here (rw other at some) in
        rw other (omega (arith, rest))
  ]

module _ (test : LitmusTest) (listed : List Told) (once : AllPairs (λ (a b : Told). a.ending ≢ b.ending) listed)
    (over : (told : Told) → Contains listed told → is_over told.ending ≡ true) where
  abbrev is_listed : Ending → Bool
  is_listed e = list_any (λ (told : Told). same_end e told.ending) listed

  -- What is listed is over.
  over_listed : (e : Ending) → is_listed e ≡ true → is_over e ≡ true
  over_listed e there =
      let some = Any-from_list_any (λ (told : Told). same_end e told.ending) listed there in
      ap is_over ((end_decides e some.1.ending).0 some.4) ∙ over some.1 (some.0, some.2, some.3)

  hits : (e : Ending) (n : ℕ) → (is_over e ≡ true → is_listed e ≡ true)
      → total (hit e n) listed ≡ (if is_over e then n else 0)
  hits e n there = elim (cases_Bool (is_over e)) [
    | inl ended ↦ rw ended (one_hit e n listed once (there ended))
    | inr going ↦ elim (cases_Bool (is_listed e)) [
      | inl found ↦ absurd (false≢true (sym going ∙ over_listed e found))
      | inr none ↦ rw going (no_hit e n listed none)
    ]
  ]

  line_more : (e : Ending) (ends : List Ending) (told : Told)
      → line_count test (e ∷ ends) told ≡ line_count test ends told + hit e (one (is_passed test e)) told
  line_more e ends told =
      let count = how_more (λ end. same_end end told.ending) e ends in
      elim (cases_Bool (same_end e told.ending)) [
        | inl same ↦
            let is : is_passed test e ≡ is_passed test told.ending =
            ap (is_passed test) ((end_decides e told.ending).0 same) in
            elim (cases_Bool (is_passed test told.ending)) [
              | inl passed ↦ rw (same, is, passed) (omega arith)
              | inr fails ↦ rw (same, is, fails) refl
            ]
        | inr other ↦ elim (cases_Bool (is_passed test told.ending)) [
          | inl passed ↦ rw (other, passed) (omega arith)
          | inr fails ↦ rw (other, fails) refl
        ]
      ]

  none_counted : (told : Told) → line_count test [] told ≡ 0
  none_counted told = elim (cases_Bool (is_passed test told.ending)) [
    | inl passed ↦ rw passed refl
    | inr fails ↦ rw fails refl
  ]

  total_none : (f : Told → ℕ) → ((told : Told) → f told ≡ 0) → (xs : List Told) → total f xs ≡ 0
  total_none f none [] = refl
  total_none f none (x ∷ xs) =
      let here = none x in let rest = total_none f none xs in omega (arith, here, rest)

  lines_total : (ends : List Ending) → AllByRecursion (λ e. is_over e ≡ true → is_listed e ≡ true) ends
      → total (line_count test ends) listed
      ≡ in_runs ends (is_kind test Held) + in_runs ends (is_kind test Other)
  lines_total [] there = total_none (line_count test []) none_counted listed
  lines_total (e ∷ ends) there =
      let before = lines_total ends there.1 in
      let n = one (is_passed test e) in
      let more = total_plus (line_count test ends) (hit e n) (line_count test (e ∷ ends)) (line_more e ends) listed in
      let hit_one = hits e n there.0 in
      let held = how_more (is_kind test Held) e ends in
      let other = how_more (is_kind test Other) e ends in
      let kinds = two_kinds (is_over e) (is_passed test e) (is_held test e) in
      let same : (if is_over e then n else 0) ≡ one (is_over e && is_passed test e) = both (is_over e) (is_passed test e) in
      let hit_kinds : total (hit e n) listed ≡ one (is_over e && is_passed test e) = hit_one ∙ same in
      omega (arith, before, more, hit_kinds, held, other, kinds)
    where
      both : (over passed : Bool) → (if over then one passed else 0) ≡ one (over && passed)
      both true passed = refl
      both false passed = refl

  -- So the counts of all lines are those of the runs that have ended in a final state of the test, and all counts those of
  -- all runs, where each run that is over has ended as listed.
  pub add_up : (ends : List Ending) → AllByRecursion (λ e. is_over e ≡ true → is_listed e ≡ true) ends
      → AddsUp test ends listed
  add_up ends there = record {
    lines = sum_is_total (line_count test ends) listed ∙ lines_total ends there;
    all = kinds_add test ends;
  }
