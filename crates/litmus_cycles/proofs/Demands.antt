-- What each demand asks of a candidate that is wanted.
use Rattle.std.proofs.Common.{◌≡◌, ℕ, ◌&&◌, true, false, List, sym, true≢false}
use Rattle.std.specs.List.{list_all}
use Rattle.std.proofs.lemmas.Bool.{and_parts}
use Rattle.litmus_tests.specs.declared.test.LitmusTest.{LitmusTest}
use Rattle.litmus_runs.specs.declared.runs.AllRuns.{AllRuns}
use Rattle.litmus_cycles.specs.declared.{event.MemoryEvent.MemoryEvent}
use Rattle.litmus_cycles.specs.declared.demand.Demand.{Demand}
use Rattle.litmus_cycles.specs.declared.demand.Demand.TheVariants.{Numbers, Writes, Coherent, Whole}
use Rattle.litmus_cycles.specs.{Executions.is_candidate, Executions.all_pairs, Endings.may_end}
use Rattle.litmus_cycles.specs.OneOrder.{is_coherent_execution, is_whole_execution, keeps_order, writes_behind, are_own_in_order}
use Rattle.litmus_cycles.specs.{Searched.meets_demand, Searched.is_wanted, Refusals.orders_all, Refusals.asks_whole}

pub meets_of : (test : LitmusTest) (runs : AllRuns) (chosen : List ℕ) (demand : Demand) (final : List MemoryEvent)
    → is_wanted test runs chosen demand final ≡ true → meets_demand demand test final ≡ true
meets_of test runs chosen demand final is =
    (and_parts (may_end test runs chosen final) (meets_demand demand test final) is).1

pub numbers_of : (test : LitmusTest) (demand : Demand) (final : List MemoryEvent) → meets_demand demand test final ≡ true
    → is_candidate test final ≡ true
numbers_of test Numbers final is = is
numbers_of test Writes final is = (and_parts (is_candidate test final) (all_pairs are_own_in_order final) is).0
numbers_of test Coherent final is = (and_parts (is_candidate test final) (is_coherent_execution final) is).0
numbers_of test Whole final is =
    (and_parts (is_candidate test final) (is_coherent_execution final)
    (and_parts (is_candidate test final && is_coherent_execution final) (is_whole_execution final) is).0).0

pub coherent_of : (test : LitmusTest) (demand : Demand) (final : List MemoryEvent) → meets_demand demand test final ≡ true
    → orders_all demand ≡ true → is_coherent_execution final ≡ true
coherent_of test Numbers final is asks = absurd (true≢false (sym asks))
coherent_of test Writes final is asks = absurd (true≢false (sym asks))
coherent_of test Coherent final is asks = (and_parts (is_candidate test final) (is_coherent_execution final) is).1
coherent_of test Whole final is asks =
    (and_parts (is_candidate test final) (is_coherent_execution final)
    (and_parts (is_candidate test final && is_coherent_execution final) (is_whole_execution final) is).0).1

pub whole_of : (test : LitmusTest) (demand : Demand) (final : List MemoryEvent) → meets_demand demand test final ≡ true
    → asks_whole demand ≡ true → is_whole_execution final ≡ true
whole_of test Numbers final is asks = absurd (true≢false (sym asks))
whole_of test Writes final is asks = absurd (true≢false (sym asks))
whole_of test Coherent final is asks = absurd (true≢false (sym asks))
whole_of test Whole final is asks =
    (and_parts (is_candidate test final && is_coherent_execution final) (is_whole_execution final) is).1

pub all_orders_of : (demand : Demand) → asks_whole demand ≡ true → orders_all demand ≡ true
all_orders_of Numbers asks = asks
all_orders_of Writes asks = asks
all_orders_of Coherent asks = absurd (true≢false (sym asks))
all_orders_of Whole asks = asks

pub ordered_of : (final : List MemoryEvent) → is_coherent_execution final ≡ true
    → all_pairs (keeps_order final) final ≡ true
ordered_of final is = (and_parts (all_pairs (keeps_order final) final) (list_all (writes_behind final) final) is).0

pub behind_of : (final : List MemoryEvent) → is_coherent_execution final ≡ true
    → list_all (writes_behind final) final ≡ true
behind_of final is = (and_parts (all_pairs (keeps_order final) final) (list_all (writes_behind final) final) is).1
