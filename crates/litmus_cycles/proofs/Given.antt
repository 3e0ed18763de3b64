-- Nothing comes of a source that is refused.
use Rattle.std.proofs.Common.{◌≡◌, ℕ, ◌&&◌, ◌||◌, not, Bool, true, false, inl, inr, List, slice_get, Some, sym, ◌∙◌, ap, true≢false, if◌then◌else◌}
use Rattle.std.specs.List.{list_all}
use Rattle.std.proofs.lemmas.Bool.{and_cases, or_parts, cases_Bool, false_from_ne_true}
use Rattle.litmus_tests.specs.declared.test.LitmusTest.{LitmusTest}
use Rattle.litmus_runs.specs.declared.runs.AllRuns.{AllRuns}
use Rattle.litmus_cycles.specs.declared.{event.MemoryEvent.MemoryEvent, open.Open.Open, demand.Demand.Demand}
use Rattle.litmus_cycles.specs.{Executions.is_read, Executions.is_failing, OneOrder.writes_behind, OneOrder.parts}
use Rattle.litmus_cycles.specs.{Searched.meets_demand, Searched.is_wanted}
use Rattle.litmus_cycles.specs.Refusals.{orders_all, asks_whole, is_ahead, is_behind, is_in_order, is_whole_with, is_whole_at, may_have_source}
use Rattle.litmus_cycles.specs.Kept.{AreKept, AreUnsourced, IsGiven, NoneComes, last_place}
use Rattle.litmus_cycles.proofs.{Pairs.candidate_of, Staying.IsOf, Staying.becomes, Staying.if_some}
use Rattle.litmus_cycles.proofs.Demands.{meets_of, numbers_of, coherent_of, whole_of, ordered_of}
use Rattle.litmus_cycles.proofs.Reading.{IsSet, set_read, never_behind, never_ahead, never_followed, never_whole_itself, never_whole_with, never_broken, true_of_not}

in_no_order : (test : LitmusTest) (rest : List Open) (demand : Demand) (events final : List MemoryEvent) (index : ℕ)
    (event found : MemoryEvent) → IsSet test rest events final index event found
    → (not (orders_all demand) || is_in_order events event) ≡ false → meets_demand demand test final ≡ true → ⊥
in_no_order test rest demand events final index event found set fails meets =
    let ends = or_parts (not (orders_all demand)) (is_in_order events event) fails in
    let coherent = coherent_of test demand final meets (true_of_not (orders_all demand) ends.0) in
    elim (and_cases (writes_behind events event && list_all (is_ahead events event) events)
    (list_all (is_behind events event) events) ends.1) [
      | inl first ↦ elim (and_cases (writes_behind events event) (list_all (is_ahead events event) events) first) [
        | inl behind ↦
            true≢false (sym coherent ∙ never_behind test rest events final index event found set behind)
        | inr ahead ↦
            true≢false (sym (ordered_of final coherent) ∙ never_ahead test rest events final index event found set ahead)
      ]
      | inr followed ↦
          true≢false (sym (ordered_of final coherent)
          ∙ never_followed test rest events final index event found set followed)
    ]

in_no_whole : (test : LitmusTest) (rest : List Open) (demand : Demand) (events final : List MemoryEvent) (index : ℕ)
    (event found : MemoryEvent) → IsSet test rest events final index event found → is_read event ≡ true
    → (not (asks_whole demand) || is_whole_at events index event) ≡ false → meets_demand demand test final ≡ true → ⊥
in_no_whole test rest demand events final index event found set is fails meets =
    let ends = or_parts (not (asks_whole demand)) (is_whole_at events index event) fails in
    let whole = whole_of test demand final meets (true_of_not (asks_whole demand) ends.0) in
    elim (and_cases (list_all (λ write. not (parts events write event)) events) (list_all (is_whole_with events index) events)
    ends.1) [
      | inl itself ↦
          true≢false (sym whole ∙ never_whole_itself test rest events final index event found set is itself)
      | inr other ↦
          true≢false (sym whole ∙ never_whole_with test rest events final index event found set other)
    ]

not_given : (test : LitmusTest) (rest : List Open) (demand : Demand) (events final : List MemoryEvent) (index : ℕ)
    (event : MemoryEvent) → AreKept rest events final → AreUnsourced rest events → IsGiven rest index events
    → slice_get events index ≡ Some event → may_have_source demand events index event ≡ false
    → meets_demand demand test final ≡ true → ⊥
not_given test rest demand events final index event kept unsourced given at fails meets =
    let of : IsOf test rest events final = record {
      kept = kept;
      unsourced = unsourced;
      candidate = candidate_of test final (numbers_of test demand final meets);
    } in
    let b = becomes rest events final index event kept at in
    let placed : last_place rest event.location ≡ 0 =
    if_some (λ e. last_place rest e.location ≡ 0) (slice_get events index) event at given.placed in
    let ordered : Bool = not (orders_all demand) || is_in_order events event in
    let whole : Bool = not (asks_whole demand) || is_whole_at events index event in
    elim (cases_Bool (is_read event)) [
      | inl is ↦
          let set = set_read test rest events final index event b.event of at b.is b.kept given.sourced placed is in
          let parts : (ordered && whole) ≡ false =
          sym (ap (λ r. if not r then is_failing events event else ordered && whole) is) ∙ fails in
          elim (and_cases ordered whole parts) [
            | inl not_so ↦ in_no_order test rest demand events final index event b.event set not_so meets
            | inr not_so ↦ in_no_whole test rest demand events final index event b.event set is not_so meets
          ]
      | inr is ↦
          never_broken test rest events final index event b.event of b.is b.kept given.sourced placed is
          (sym (ap (λ r. if not r then is_failing events event else ordered && whole) is) ∙ fails)
    ]

pub none_given : (test : LitmusTest) (runs : AllRuns) (chosen : List ℕ) (demand : Demand) (rest : List Open)
    (events : List MemoryEvent) (index : ℕ) (event : MemoryEvent) → AreUnsourced rest events → IsGiven rest index events
    → slice_get events index ≡ Some event → may_have_source demand events index event ≡ false
    → NoneComes test runs chosen demand rest events
none_given test runs chosen demand rest events index event unsourced given at fails = record {
  each = λ final kept. false_from_ne_true (is_wanted test runs chosen demand final)
      (λ is. not_given test rest demand events final index event kept unsourced given at fails
      (meets_of test runs chosen demand final is));
}
