-- What is told of all candidates, where a search has looked at them.
use Rattle.std.proofs.Common.{◌≡◌, ◌==◌, ◌&&◌, ◌<◌, ◌-◌, ◌^◌, min, Bool, true, false, [], length, All, sym, ◌∙◌, arith, ap, subst, true≢false, refl}
use Rattle.std.proofs.lemmas.{Bool.and_parts, Bool.eqb-true, List.nil_from_length}
use Rattle.litmus_tests.specs.declared.test.LitmusTest.{LitmusTest}
use Rattle.litmus_runs.specs.declared.runs.AllRuns.{AllRuns}
use Rattle.litmus_cycles.specs.declared.findings.Findings.{Findings}
use Rattle.litmus_cycles.specs.declared.explanation.{Shown.Shown, Explanation.Explanation}
use Rattle.litmus_cycles.specs.declared.explanation.Shown.TheVariants.{Nothing, Cycle, Incoherent, Atomicity, Execution}
use Rattle.litmus_cycles.specs.declared.demand.Demand.{Demand}
use Rattle.litmus_cycles.specs.declared.demand.Demand.TheVariants.{Numbers, Coherent, Whole}
use Rattle.litmus_cycles.specs.{Explained.HasCycle, Explained.shows_execution}
use Rattle.litmus_cycles.specs.Searched.{IsFound, IsComplete, AreSearched, all_wanted}
use Rattle.litmus_cycles.specs.Looked.{is_incoherent, is_atomicity, NoneMeets, HasNone, EachHas, AreLookedAt}

-- A search that found none ends early only where it leaves something out.
not_over : (test : LitmusTest) (findings : Findings) (over : Bool) → IsFound test findings → findings.is_over ≡ over
    → findings.is_whole ≡ true → findings.fitting ≡ 0 → findings.is_over ≡ false
not_over test findings false found e whole none = e
not_over test findings true found e whole none =
    let some = found.over e whole in
    absurd (omega (arith, some, none))

complete_of : (test : LitmusTest) (findings : Findings) → IsFound test findings → findings.is_whole ≡ true
    → findings.fitting ≡ 0 → IsComplete findings
complete_of test findings found whole none = record {
  whole = whole;
  lasts = not_over test findings findings.is_over found refl whole none;
}

none_meets : (test : LitmusTest) (runs : AllRuns) (demand : Demand) (findings : Findings)
    → AreSearched test runs demand findings → IsComplete findings → findings.fitting ≡ 0 → NoneMeets test runs demand
none_meets test runs demand findings searched complete none =
    nil_from_length (all_wanted test runs demand) (sym (searched.counted complete) ∙ none)

-- Where none fits, and this is shown, it is said of the candidates that another search has looked for.
said : (test : LitmusTest) (runs : AllRuns) (demand : Demand) (none others : Findings) (explanation : Explanation)
    → AreSearched test runs Whole none → IsFound test none → none.fitting ≡ 0
    → AreSearched test runs demand others → IsFound test others
    → explanation.candidates ≡ none.candidates → explanation.fitting ≡ 0
    → explanation.is_whole ≡ (none.is_whole && (others.is_whole && others.fitting == 0))
    → (NoneMeets test runs demand → HasNone test runs explanation.shown) → EachHas test runs explanation.shown
    → AreLookedAt test runs explanation
said test runs demand none others explanation fits fits_found unfit searched found total counts whole has each = record {
  candidates = λ w.
      let wholes = and_parts none.is_whole (others.is_whole && others.fitting == 0) (sym whole ∙ w) in
      ap (λ n. min n (2 ^ 64 - 1)) total
      ∙ fits.candidates (complete_of test none fits_found wholes.0 unfit);
  fitting = λ w.
      let wholes = and_parts none.is_whole (others.is_whole && others.fitting == 0) (sym whole ∙ w) in
      counts ∙ sym unfit ∙ fits.counted (complete_of test none fits_found wholes.0 unfit);
  none = λ w f.
      let wholes = and_parts none.is_whole (others.is_whole && others.fitting == 0) (sym whole ∙ w) in
      let parts = and_parts others.is_whole (others.fitting == 0) wholes.1 in
      let is_zero = eqb-true others.fitting 0 parts.1 in
      has (none_meets test runs demand others searched (complete_of test others found parts.0 is_zero) is_zero);
  each = λ w. each;
}

none_coherent : (test : LitmusTest) (runs : AllRuns) (shown : Shown) → is_incoherent shown ≡ true
    → NoneMeets test runs Coherent → HasNone test runs shown
none_coherent test runs Nothing is none = absurd (true≢false (sym is))
none_coherent test runs (Cycle events edges) is none = absurd (true≢false (sym is))
none_coherent test runs (Incoherent events edges) is none = none
none_coherent test runs (Atomicity events broken) is none = absurd (true≢false (sym is))
none_coherent test runs (Execution events order) is none = absurd (true≢false (sym is))

none_whole : (test : LitmusTest) (runs : AllRuns) (shown : Shown) → is_atomicity shown ≡ true
    → NoneMeets test runs Whole → HasNone test runs shown
none_whole test runs Nothing is none = absurd (true≢false (sym is))
none_whole test runs (Cycle events edges) is none = absurd (true≢false (sym is))
none_whole test runs (Incoherent events edges) is none = absurd (true≢false (sym is))
none_whole test runs (Atomicity events broken) is none = none
none_whole test runs (Execution events order) is none = absurd (true≢false (sym is))

no_cycle_incoherent : (test : LitmusTest) (runs : AllRuns) (shown : Shown) → is_incoherent shown ≡ true
    → EachHas test runs shown
no_cycle_incoherent test runs Nothing is = tt
no_cycle_incoherent test runs (Cycle events edges) is = absurd (true≢false (sym is))
no_cycle_incoherent test runs (Incoherent events edges) is = tt
no_cycle_incoherent test runs (Atomicity events broken) is = tt
no_cycle_incoherent test runs (Execution events order) is = tt

no_cycle_atomicity : (test : LitmusTest) (runs : AllRuns) (shown : Shown) → is_atomicity shown ≡ true
    → EachHas test runs shown
no_cycle_atomicity test runs Nothing is = tt
no_cycle_atomicity test runs (Cycle events edges) is = absurd (true≢false (sym is))
no_cycle_atomicity test runs (Incoherent events edges) is = tt
no_cycle_atomicity test runs (Atomicity events broken) is = tt
no_cycle_atomicity test runs (Execution events order) is = tt

pub said_incoherent : (test : LitmusTest) (runs : AllRuns) (none others : Findings) (shown : Shown)
    (explanation : Explanation)
    → AreSearched test runs Whole none → IsFound test none → none.fitting ≡ 0
    → AreSearched test runs Coherent others → IsFound test others
    → explanation.candidates ≡ none.candidates → explanation.fitting ≡ 0
    → explanation.is_whole ≡ (none.is_whole && (others.is_whole && others.fitting == 0))
    → explanation.shown ≡ shown → is_incoherent shown ≡ true → AreLookedAt test runs explanation
said_incoherent test runs none others shown explanation fits fits_found unfit searched found total counts whole is
    incoherent =
    said test runs Coherent none others explanation fits fits_found unfit searched found total counts whole
    (λ meets. subst (HasNone test runs) (sym is) (none_coherent test runs shown incoherent meets))
    (subst (EachHas test runs) (sym is) (no_cycle_incoherent test runs shown incoherent))

pub said_atomicity : (test : LitmusTest) (runs : AllRuns) (none : Findings) (shown : Shown)
    (explanation : Explanation)
    → AreSearched test runs Whole none → IsFound test none → none.fitting ≡ 0
    → explanation.candidates ≡ none.candidates → explanation.fitting ≡ 0
    → explanation.is_whole ≡ (none.is_whole && (none.is_whole && none.fitting == 0))
    → explanation.shown ≡ shown → is_atomicity shown ≡ true → AreLookedAt test runs explanation
said_atomicity test runs none shown explanation fits found unfit total counts whole is broken =
    said test runs Whole none none explanation fits found unfit fits found total counts whole
    (λ meets. subst (HasNone test runs) (sym is) (none_whole test runs shown broken meets))
    (subst (EachHas test runs) (sym is) (no_cycle_atomicity test runs shown broken))

pub said_nothing : (test : LitmusTest) (runs : AllRuns) (none others : Findings) (explanation : Explanation)
    → AreSearched test runs Whole none → IsFound test none → none.fitting ≡ 0
    → AreSearched test runs Numbers others → IsFound test others
    → explanation.candidates ≡ none.candidates → explanation.fitting ≡ 0
    → explanation.is_whole ≡ (none.is_whole && (others.is_whole && others.fitting == 0))
    → explanation.shown ≡ Nothing → AreLookedAt test runs explanation
said_nothing test runs none others explanation fits fits_found unfit searched found total counts whole is =
    said test runs Numbers none others explanation fits fits_found unfit searched found total counts whole
    (λ meets. subst (HasNone test runs) (sym is) meets) (subst (EachHas test runs) (sym is) tt)

each_has : (test : LitmusTest) (runs : AllRuns) (shown : Shown)
    → (shows_execution shown ≡ false → All HasCycle (all_wanted test runs Whole)) → EachHas test runs shown
each_has test runs Nothing all = tt
each_has test runs (Cycle events edges) all = all refl
each_has test runs (Incoherent events edges) all = tt
each_has test runs (Atomicity events broken) all = tt
each_has test runs (Execution events order) all = tt

-- Where some fit, or not all were looked at.
pub said_fitting : (test : LitmusTest) (runs : AllRuns) (findings : Findings) (explanation : Explanation)
    → AreSearched test runs Whole findings → (findings.is_whole ≡ true → 0 < findings.fitting)
    → explanation.candidates ≡ findings.candidates → explanation.fitting ≡ findings.fitting
    → explanation.is_whole ≡ findings.is_whole → explanation.shown ≡ findings.shown
    → AreLookedAt test runs explanation
said_fitting test runs findings explanation searched some total counts whole is = record {
  candidates = λ w.
      let complete : IsComplete findings =
      record { whole = sym whole ∙ w; lasts = searched.lasts refl (sym whole ∙ w) } in
      ap (λ n. min n (2 ^ 64 - 1)) total ∙ searched.candidates complete;
  fitting = λ w.
      let complete : IsComplete findings =
      record { whole = sym whole ∙ w; lasts = searched.lasts refl (sym whole ∙ w) } in
      counts ∙ searched.counted complete;
  none = λ w f.
      let more = some (sym whole ∙ w) in
      absurd (omega (arith, more, counts, f));
  each = λ w.
      let complete : IsComplete findings =
      record { whole = sym whole ∙ w; lasts = searched.lasts refl (sym whole ∙ w) } in
      subst (EachHas test runs) (sym is) (each_has test runs findings.shown (searched.cycles complete));
}
