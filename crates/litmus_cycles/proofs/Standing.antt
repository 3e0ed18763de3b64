-- Nothing comes of a place that is refused.
use Rattle.std.proofs.Common.{◌≡◌, ℕ, ◌<◌, ◌≤◌, ◌+◌, ◌-◌, ◌==◌, ◌&&◌, ◌||◌, not, nat_lt, nat_le, Bool, true, false, ◌⊎◌, inl, inr, if◌then◌else◌}
use Rattle.std.proofs.Common.{List, slice_get, Option, Some, None, is_some, option_and_then, sym, ◌∙◌, arith, subst, ap, refl, true≢false}
use Rattle.std.specs.{Option.option_map_or, List.list_all}
use Rattle.std.proofs.lemmas.Bool.{and_parts, and_cases, or_parts, or_right, cases_Bool, ltb-true, ltb-false, leb-true, eqb-true, eq-eqb, lt-ltb, le-ltb, not_from_true, not_from_false, false_from_ne_true}
use Rattle.litmus_tests.specs.declared.test.LitmusTest.{LitmusTest}
use Rattle.litmus_runs.specs.{declared.runs.AllRuns.AllRuns, Numbers.initial_number}
use Rattle.litmus_cycles.specs.declared.{event.MemoryEvent.MemoryEvent, open.Open.Open, demand.Demand.Demand}
use Rattle.litmus_cycles.specs.declared.demand.Demand.TheVariants.{Numbers, Writes, Coherent, Whole}
use Rattle.litmus_cycles.specs.Executions.{is_read, is_write, source_rank, has_number, written_at, given_by, is_sourced, is_ranked, is_candidate, all_pairs, are_apart, load_of, reads_older, is_others_write}
use Rattle.litmus_cycles.specs.OneOrder.{rank_behind, goes_on, keeps_order, writes_behind, are_own_in_order, is_coherent_execution, is_whole_execution, parts}
use Rattle.litmus_cycles.specs.{Searched.meets_demand, Searched.is_wanted, Choices.writes_at, Endings.may_end}
use Rattle.litmus_cycles.specs.Refusals.{orders_writes, asks_whole, stands_before, goes_before, may_read_that, may_follow, is_next, is_own_behind, is_handed_to, may_be_first, is_handed_on, may_have_place}
use Rattle.litmus_cycles.specs.Kept.{last_place, IsKept, AreKept, AreUnsourced, StandsLast, NoneComes}
use Rattle.litmus_cycles.proofs.Pairs.{IsCandidate, candidate_of, Fails, fails_at, all_at, pair_at, pair_in_order, less_or_not, same_or_more}
use Rattle.litmus_cycles.proofs.Staying.{IsOf, becomes, zero_or_more, if_some}
use Rattle.litmus_cycles.proofs.Reading.{true_of_not, all_three}
use Rattle.litmus_cycles.proofs.Demands.{meets_of, numbers_of, coherent_of, whole_of, all_orders_of, ordered_of, behind_of}
use Rattle.litmus_cycles.proofs.Learning.{never_ends_so}

-- Where a hart's accesses keep their order, so do its writes.
own_in_order : (events : List MemoryEvent) (a b : MemoryEvent) → keeps_order events a b ≡ true
    → are_own_in_order a b ≡ true
own_in_order events a b keeps = elim (cases_Bool (are_own_in_order a b)) [
  | inl is ↦ is
  | inr fails ↦
      let ends = or_parts (not (a.hart == b.hart && a.location == b.location && is_write a && is_write b))
      (nat_lt a.rank b.rank) fails in
      let all = true_of_not (a.hart == b.hart && a.location == b.location && is_write a && is_write b) ends.0 in
      let p = and_parts (a.hart == b.hart && a.location == b.location && is_write a) (is_write b) all in
      let q = and_parts (a.hart == b.hart && a.location == b.location) (is_write a) p.0 in
      let one : (a.hart == b.hart && a.location == b.location && (is_read a || is_write a)) ≡ true =
      ap (λ x. x && (is_read a || is_write a)) q.0 ∙ or_right (is_read a) (is_write a) q.1 in
      let on : goes_on events a b ≡ true =
      sym (ap (λ x. not x || goes_on events a b) one) ∙ keeps in
      let second = (and_parts (not (is_read b) || nat_le (rank_behind events a) (source_rank events b))
      (not (is_write b) || nat_lt (rank_behind events a) b.rank) on).1 in
      let behind : rank_behind events a ≡ a.rank = ap (λ x. if x then a.rank else source_rank events a) q.1 in
      let less : nat_lt a.rank b.rank ≡ true =
      sym (ap (λ x. not x || nat_lt (rank_behind events a) b.rank) p.1 ∙ ap (λ n. nat_lt n b.rank) behind) ∙ second in
      absurd (true≢false (sym less ∙ ends.1))
]

-- What asks for the order of a hart's writes has it.
own_pair : (test : LitmusTest) (demand : Demand) (final : List MemoryEvent) (i j : ℕ) (a b : MemoryEvent)
    → orders_writes demand ≡ true → meets_demand demand test final ≡ true → IsCandidate test final
    → slice_get final i ≡ Some a → slice_get final j ≡ Some b → a.hart ≡ b.hart → a.place < b.place
    → are_own_in_order a b ≡ true
own_pair test Numbers final i j a b asks meets candidate at to own less = absurd (true≢false (sym asks))
own_pair test Writes final i j a b asks meets candidate at to own less =
    pair_in_order are_own_in_order final i j a b candidate.before
    (and_parts (is_candidate test final) (all_pairs are_own_in_order final) meets).1 at to own less
own_pair test Coherent final i j a b asks meets candidate at to own less =
    own_in_order final a b (pair_in_order (keeps_order final) final i j a b candidate.before
    (ordered_of final (coherent_of test Coherent final meets refl)) at to own less)
own_pair test Whole final i j a b asks meets candidate at to own less =
    own_in_order final a b (pair_in_order (keeps_order final) final i j a b candidate.before
    (ordered_of final (coherent_of test Whole final meets refl)) at to own less)

same_own : (rest : List Open) (i j : ℕ) (a b a' b' : MemoryEvent) → IsKept rest i a a' → IsKept rest j b b'
    → (a'.hart == b'.hart && a'.location == b'.location && is_write a' && is_write b')
    ≡ (a.hart == b.hart && a.location == b.location && is_write a && is_write b)
same_own rest i j a b a' b' kept other = cc

-- A write that has its place, and what it comes to.
record HasPlace (test : LitmusTest) (rest : List Open) (events final : List MemoryEvent) (index : ℕ)
    (write found : MemoryEvent) : Type 0 where
  pub of : IsOf test rest events final
  pub at : slice_get events index ≡ Some write
  pub there : slice_get final index ≡ Some found
  pub kept : IsKept rest index write found
  pub last : last_place rest write.location < write.rank
  pub same : found.rank ≡ write.rank

lower_rank : (rest : List Open) (index : ℕ) (other found : MemoryEvent) (location rank final : ℕ)
    → IsKept rest index other found → other.location ≡ location → last_place rest location < rank
    → other.rank ≤ rank → final ≡ rank → found.rank ≤ final
lower_rank rest index other found location rank final kept here last over same = elim (zero_or_more other.rank) [
  | inl none ↦
      let few = kept.free none in
      let e : last_place rest other.location ≡ last_place rest location = ap (last_place rest) here in
      omega (arith, few, e, last, same)
  | inr some ↦
      let stays = kept.placed some in
      omega (arith, stays, over, same)
]

not_before_own : (test : LitmusTest) (demand : Demand) (rest : List Open) (events final : List MemoryEvent) (index : ℕ)
    (write found : MemoryEvent) → HasPlace test rest events final index write found
    → (not (orders_writes demand) || list_all (stands_before write) events) ≡ false
    → meets_demand demand test final ≡ true → ⊥
not_before_own test demand rest events final index write found has fails meets =
    let ends = or_parts (not (orders_writes demand)) (list_all (stands_before write) events) fails in
    let f = fails_at (stands_before write) events ends.1 in
    let other : MemoryEvent = f.event in
    let b = becomes rest events final f.index other has.of.kept f.is in
    let parts = or_parts (not (nat_lt write.place other.place)) (are_own_in_order write other) f.fails in
    let less = ltb-true write.place other.place (true_of_not (nat_lt write.place other.place) parts.0) in
    let one : Bool = write.hart == other.hart && write.location == other.location && is_write write && is_write other in
    let more = or_parts (not one) (nat_lt write.rank other.rank) parts.1 in
    let is = true_of_not one more.0 in
    let over = ltb-false write.rank other.rank more.1 in
    let p = and_parts (write.hart == other.hart && write.location == other.location && is_write write) (is_write other) is in
    let q = and_parts (write.hart == other.hart && write.location == other.location) (is_write write) p.0 in
    let r = and_parts (write.hart == other.hart) (write.location == other.location) q.0 in
    let own : write.hart ≡ other.hart = eqb-true write.hart other.hart r.0 in
    let here : write.location ≡ other.location = eqb-true write.location other.location r.1 in
    let bound : b.event.rank ≤ found.rank =
    lower_rank rest f.index other b.event write.location write.rank found.rank b.kept (sym here) has.last over has.same in
    let wrong : are_own_in_order found b.event ≡ false =
    ap (λ x. not x || nat_lt found.rank b.event.rank) (same_own rest index f.index write other found b.event has.kept b.kept ∙ is)
    ∙ le-ltb found.rank b.event.rank bound in
    let pl = has.kept.place in
    let ot = b.kept.place in
    let right = own_pair test demand final index f.index found b.event (true_of_not (orders_writes demand) ends.0) meets
    has.of.candidate has.there b.is (has.kept.hart ∙ own ∙ sym b.kept.hart) (omega (arith, pl, ot, less)) in
    true≢false (sym right ∙ wrong)

-- What a read has read: what is there at the start, or a write with a place.
pub record FromStart (test : LitmusTest) (final : List MemoryEvent) (load : MemoryEvent) (number : ℕ) : Type 0 where
  pub rank : source_rank final load ≡ 0
  pub is : has_number number (initial_number test load.location) ≡ true

pub record FromWrite (final : List MemoryEvent) (load : MemoryEvent) (number : ℕ) : Type 0 where
  pub index : ℕ
  pub write : MemoryEvent
  pub at : slice_get final index ≡ Some write
  pub here : write.location ≡ load.location
  pub is : has_number number write.writes ≡ true
  pub rank : source_rank final load ≡ write.rank
  pub some : 0 < write.rank

some_of : (number : ℕ) (given : Option ℕ) → has_number number given ≡ true → is_some given ≡ true
some_of number None is = absurd (true≢false (sym is))
some_of number (Some found) is = refl

from_write : (test : LitmusTest) (final : List MemoryEvent) (load : MemoryEvent) (number index : ℕ)
    (found : Option MemoryEvent) → IsCandidate test final → load.source ≡ Some index → slice_get final index ≡ found
    → has_number number (option_and_then (λ s. written_at s load.location) found) ≡ true → FromWrite final load number
from_write test final load number index None candidate from at is = absurd (true≢false (sym is))
from_write test final load number index (Some write) candidate from at is = elim (cases_Bool (write.location == load.location)) [
  | inl same ↦
      let given : written_at write load.location ≡ write.writes = ap (λ b. if b then write.writes else None) same in
      let has : has_number number write.writes ≡ true = ap (has_number number) (sym given) ∙ is in
      let ranked : (not (is_write write) || nat_lt 0 write.rank) ≡ true =
      all_at is_ranked final index write candidate.ranked at in
      record {
        index = index;
        write = write;
        at = at;
        here = eqb-true write.location load.location same;
        is = has;
        rank = ap (λ s. option_map_or (λ source. source.rank) (option_and_then (λ i. slice_get final i) s) 0) from
            ∙ ap (λ o. option_map_or (λ source. source.rank) o 0) at;
        some = ltb-true 0 write.rank
            (sym (ap (λ b. not b || nat_lt 0 write.rank) (some_of number write.writes has)) ∙ ranked);
      }
  | inr other ↦
      let none : written_at write load.location ≡ None = ap (λ b. if b then write.writes else None) other in
      absurd (true≢false (sym is ∙ ap (has_number number) none))
]

read_by : (test : LitmusTest) (final : List MemoryEvent) (load : MemoryEvent) (number : ℕ) (source : Option ℕ)
    → IsCandidate test final → load.source ≡ source → has_number number (given_by source test final load) ≡ true
    → FromStart test final load number ⊎ FromWrite final load number
read_by test final load number None candidate from is = inl (record {
  rank = ap (λ s. option_map_or (λ source. source.rank) (option_and_then (λ i. slice_get final i) s) 0) from;
  is = is;
})
read_by test final load number (Some index) candidate from is =
    inr (from_write test final load number index (slice_get final index) candidate from refl is)

pub read_of : (test : LitmusTest) (final : List MemoryEvent) (index number : ℕ) (load : MemoryEvent)
    → IsCandidate test final → slice_get final index ≡ Some load → load.reads ≡ Some number
    → FromStart test final load number ⊎ FromWrite final load number
read_of test final index number load candidate at reads =
    let is = all_at (is_sourced test final) final index load candidate.sourced at in
    read_by test final load number load.source candidate refl
    (sym (ap (λ r. option_map_or (λ n. has_number n (given_by load.source test final load)) r true) reads) ∙ is)

-- The load that goes with a store, and what it comes to.
record HasLoad (rest : List Open) (events final : List MemoryEvent) (store found load : MemoryEvent) : Type 0 where
  pub index : ℕ
  pub event : MemoryEvent
  pub there : slice_get final index ≡ Some event
  pub is : load_of final found ≡ Some event
  pub kept : IsKept rest index load event
  pub own : is_read store ≡ true → load ≡ store

by_index : (rest : List Open) (events final : List MemoryEvent) (load : MemoryEvent) (by : Option ℕ)
    → AreKept rest events final → option_and_then (λ k. slice_get events k) by ≡ Some load
    → (index : ℕ) × (by ≡ Some index) × (slice_get events index ≡ Some load)
by_index rest events final load None kept at = cc
by_index rest events final load (Some index) kept at = (index, refl, at)

load_becomes : (rest : List Open) (events final : List MemoryEvent) (j : ℕ) (store found load : MemoryEvent)
    → AreKept rest events final → slice_get events j ≡ Some store → slice_get final j ≡ Some found
    → IsKept rest j store found → load_of events store ≡ Some load → HasLoad rest events final store found load
load_becomes rest events final j store found load kept at there same is = elim (cases_Bool (is_read store)) [
  | inl reads ↦
      let own : load_of events store ≡ Some store =
      ap (λ b. if b then Some store else option_and_then (λ k. slice_get events k) store.reserved_by) reads in
      let e : Some store ≡ Some load = sym own ∙ is in
      let f : store ≡ load = cc in
      record {
        index = j;
        event = found;
        there = there;
        is = ap (λ b. if b then Some found else option_and_then (λ k. slice_get final k) found.reserved_by)
            (ap is_some same.reads ∙ reads);
        kept = subst (λ z. IsKept rest j z found) f same;
        own = λ r. sym f;
      }
  | inr not_read ↦
      let by : option_and_then (λ k. slice_get events k) store.reserved_by ≡ Some load =
      sym (ap (λ b. if b then Some store else option_and_then (λ k. slice_get events k) store.reserved_by) not_read) ∙ is in
      let one = by_index rest events final load store.reserved_by kept by in
      let b = becomes rest events final one.0 load kept one.2 in
      record {
        index = one.0;
        event = b.event;
        there = b.is;
        is = ap (λ c. if c then Some found else option_and_then (λ k. slice_get final k) found.reserved_by)
            (ap is_some same.reads ∙ not_read)
            ∙ ap (λ r. option_and_then (λ k. slice_get final k) r) (same.reserved ∙ one.1) ∙ b.is;
        kept = b.kept;
        own = λ r. absurd (true≢false (sym r ∙ not_read));
      }
]

false_of_not : (b : Bool) → not b ≡ true → b ≡ false
false_of_not true e = absurd (true≢false (sym e))
false_of_not false e = refl

-- A load that goes before its store, or is that of an AMO.
record GoesBefore (load store : MemoryEvent) : Type 0 where
  pub hart : load.hart ≡ store.hart
  pub location : load.location ≡ store.location
  pub place : is_read store ≡ false → load.place < store.place
  pub reads : is_read store ≡ false → is_write load ≡ false

before_of : (load store : MemoryEvent) → goes_before load store ≡ true → (is_read store ≡ true → load ≡ store)
    → GoesBefore load store
before_of load store goes own = elim (cases_Bool (is_read store)) [
  | inl reads ↦ record {
    hart = ap (λ x. x.hart) (own reads);
    location = ap (λ x. x.location) (own reads);
    place = λ n. absurd (true≢false (sym reads ∙ n));
    reads = λ n. absurd (true≢false (sym reads ∙ n));
  }
  | inr not_read ↦
      let rest : Bool = load.hart == store.hart && load.location == store.location && nat_lt load.place store.place
      && not (is_write load) in
      let is : rest ≡ true = sym (ap (λ b. b || rest) not_read) ∙ goes in
      let p = and_parts (load.hart == store.hart && load.location == store.location && nat_lt load.place store.place)
      (not (is_write load)) is in
      let q = and_parts (load.hart == store.hart && load.location == store.location) (nat_lt load.place store.place) p.0 in
      let r = and_parts (load.hart == store.hart) (load.location == store.location) q.0 in
      record {
        hart = eqb-true load.hart store.hart r.0;
        location = eqb-true load.location store.location r.1;
        place = λ n. ltb-true load.place store.place q.1;
        reads = λ n. false_of_not (is_write load) p.1;
      }
]

on_of : (events : List MemoryEvent) (a b : MemoryEvent) → a.hart ≡ b.hart → a.location ≡ b.location
    → (is_read a || is_write a) ≡ true → keeps_order events a b ≡ true → goes_on events a b ≡ true
on_of events a b hart location is keeps =
    let one : (a.hart == b.hart && a.location == b.location && (is_read a || is_write a)) ≡ true =
    all_three (a.hart == b.hart) (a.location == b.location) (is_read a || is_write a) (eq-eqb a.hart b.hart hart)
    (eq-eqb a.location b.location location) is in
    sym (ap (λ x. not x || goes_on events a b) one) ∙ keeps

-- It reads something before the place of the store.
load_is_lower : (test : LitmusTest) (rest : List Open) (events final : List MemoryEvent) (j : ℕ)
    (store found load : MemoryEvent) → IsOf test rest events final → is_coherent_execution final ≡ true
    → slice_get final j ≡ Some found → IsKept rest j store found → (one : HasLoad rest events final store found load)
    → GoesBefore load store → is_write store ≡ true → is_read load ≡ true
    → source_rank final one.event < found.rank
load_is_lower test rest events final j store found load of coherent there kept one goes writes reads =
    let wrote : is_write found ≡ true = ap is_some kept.writes ∙ writes in
    elim (cases_Bool (is_read store)) [
      | inl own ↦
          let again : is_read found ≡ true = ap is_some kept.reads ∙ own in
          let e : Some found ≡ Some one.event =
          sym (ap (λ b. if b then Some found else option_and_then (λ k. slice_get final k) found.reserved_by) again) ∙ one.is in
          let f : found ≡ one.event = cc in
          let behind : (not (is_read found && is_write found) || nat_lt (source_rank final found) found.rank) ≡ true =
          all_at (writes_behind final) final j found (behind_of final coherent) there in
          let less = ltb-true (source_rank final found) found.rank
          (sym (ap (λ b. not (b && is_write found) || nat_lt (source_rank final found) found.rank) again
          ∙ ap (λ b. not b || nat_lt (source_rank final found) found.rank) wrote) ∙ behind) in
          subst (λ z. source_rank final z < found.rank) f less
      | inr not_read ↦
          let same_hart : one.event.hart ≡ found.hart = one.kept.hart ∙ goes.hart ∙ sym kept.hart in
          let here : one.event.location ≡ found.location = one.kept.location ∙ goes.location ∙ sym kept.location in
          let lp = one.kept.place in
          let sp = kept.place in
          let before = goes.place not_read in
          let keeps = pair_in_order (keeps_order final) final one.index j one.event found of.candidate.before
          (ordered_of final coherent) one.there there same_hart (omega (arith, lp, sp, before)) in
          let read : is_read one.event ≡ true = ap is_some one.kept.reads ∙ reads in
          let not_write : is_write one.event ≡ false = ap is_some one.kept.writes ∙ goes.reads not_read in
          let on = on_of final one.event found same_hart here (ap (λ b. b || is_write one.event) read) keeps in
          let second = (and_parts (not (is_read found) || nat_le (rank_behind final one.event) (source_rank final found))
          (not (is_write found) || nat_lt (rank_behind final one.event) found.rank) on).1 in
          let rank : rank_behind final one.event ≡ source_rank final one.event =
          ap (λ b. if b then one.event.rank else source_rank final one.event) not_write in
          ltb-true (source_rank final one.event) found.rank
          (sym (ap (λ b. not b || nat_lt (rank_behind final one.event) found.rank) wrote
          ∙ ap (λ n. nat_lt n found.rank) rank) ∙ second)
    ]

-- A number that doesn't stand right before its store isn't read there.
record DoesNotFollow (rest : List Open) (events final : List MemoryEvent) (store found : MemoryEvent) (given : Option ℕ)
    : Type 0 where
  pub load : MemoryEvent
  pub is : load_of events store ≡ Some load
  pub number : ℕ
  pub reads : load.reads ≡ Some number
  pub goes : goes_before load store ≡ true
  pub not_it : has_number number given ≡ false

not_read_that : (given reads : Option ℕ) → option_map_or (λ number. has_number number given) reads true ≡ false
    → (number : ℕ) × (reads ≡ Some number) × (has_number number given ≡ false)
not_read_that given None fails = absurd (true≢false fails)
not_read_that given (Some number) fails = (number, refl, fails)

does_not_follow : (rest : List Open) (events final : List MemoryEvent) (store found : MemoryEvent) (given : Option ℕ)
    (load : Option MemoryEvent) → load_of events store ≡ load
    → option_map_or (λ l. not (goes_before l store) || may_read_that l given) load true ≡ false
    → DoesNotFollow rest events final store found given
does_not_follow rest events final store found given None is fails = absurd (true≢false fails)
does_not_follow rest events final store found given (Some load) is fails =
    let ends = or_parts (not (goes_before load store)) (may_read_that load given) fails in
    let one = not_read_that given load.reads ends.1 in
    record {
      load = load;
      is = is;
      number = one.0;
      reads = one.1;
      goes = true_of_not (goes_before load store) ends.0;
      not_it = one.2;
    }

not_first : (test : LitmusTest) (rest : List Open) (events final : List MemoryEvent) (index : ℕ)
    (write found : MemoryEvent) → HasPlace test rest events final index write found
    → is_coherent_execution final ≡ true → may_be_first test events write ≡ false → ⊥
not_first test rest events final index write found has coherent fails =
    let ends = or_parts (not (write.rank == 1) || not (is_write write))
    (may_follow events write (initial_number test write.location)) fails in
    let more = or_parts (not (write.rank == 1)) (not (is_write write)) ends.0 in
    let first : write.rank ≡ 1 = eqb-true write.rank 1 (true_of_not (write.rank == 1) more.0) in
    let writes = true_of_not (is_write write) more.1 in
    let d = does_not_follow rest events final write found (initial_number test write.location) (load_of events write) refl ends.1 in
    let one = load_becomes rest events final index write found d.load has.of.kept has.at has.there has.kept d.is in
    let goes = before_of d.load write d.goes one.own in
    let lower = load_is_lower test rest events final index write found d.load has.of coherent has.there has.kept one goes writes
    (ap is_some d.reads) in
    let same = has.same in
    elim (read_of test final one.index d.number one.event has.of.candidate one.there (one.kept.reads ∙ d.reads)) [
      | inl start ↦
          let here : one.event.location ≡ write.location = one.kept.location ∙ goes.location in
          true≢false (sym start.is ∙ ap (λ l. has_number d.number (initial_number test l)) here ∙ d.not_it)
      | inr from ↦
          let rank = from.rank in
          let some = from.some in
          omega (arith, rank, some, lower, same, first)
    ]

not_two : (a b : MemoryEvent) → is_write a ≡ true → is_write b ≡ true → a.location ≡ b.location → a.rank ≡ b.rank
    → are_apart a b ≡ false
not_two a b writes wrote here same =
    ap (λ x. not (x && is_write b && a.location == b.location && a.rank == b.rank)) writes
    ∙ ap (λ x. not (x && a.location == b.location && a.rank == b.rank)) wrote
    ∙ ap (λ x. not (x && a.rank == b.rank)) (eq-eqb a.location b.location here) ∙ ap not (eq-eqb a.rank b.rank same)

-- Two writes of a location with one place are one.
same_write : (test : LitmusTest) (final : List MemoryEvent) (i j : ℕ) (a b : MemoryEvent) → IsCandidate test final
    → slice_get final i ≡ Some a → slice_get final j ≡ Some b → is_write a ≡ true → is_write b ≡ true
    → a.location ≡ b.location → a.rank ≡ b.rank → a ≡ b
same_write test final i j a b candidate at to writes wrote here same = elim (less_or_not i j) [
  | inl less ↦
      absurd (true≢false (sym (pair_at are_apart final i j a b candidate.apart at to less)
      ∙ not_two a b writes wrote here same))
  | inr over ↦ elim (same_or_more i j over) [
    | inl is ↦
        let e : Some a ≡ Some b = sym at ∙ ap (slice_get final) is ∙ to in
        cc
    | inr more ↦
        absurd (true≢false (sym (pair_at are_apart final j i b a candidate.apart to at more)
        ∙ not_two b a wrote writes (sym here) (sym same)))
  ]
]

record IsRightBefore (write store : MemoryEvent) : Type 0 where
  pub here : store.location ≡ write.location
  pub writes : is_write write ≡ true
  pub wrote : is_write store ≡ true
  pub some : 0 < write.rank
  pub right : store.rank ≡ write.rank + 1

next_of : (write store : MemoryEvent) → is_next write store ≡ true → IsRightBefore write store
next_of write store is =
    let p = and_parts (store.location == write.location && is_write write && is_write store && nat_lt 0 write.rank)
    (store.rank - 1 == write.rank) is in
    let q = and_parts (store.location == write.location && is_write write && is_write store) (nat_lt 0 write.rank) p.0 in
    let r = and_parts (store.location == write.location && is_write write) (is_write store) q.0 in
    let t = and_parts (store.location == write.location) (is_write write) r.0 in
    let some = ltb-true 0 write.rank q.1 in
    let right : store.rank - 1 ≡ write.rank = eqb-true (store.rank - 1) write.rank p.1 in
    record {
      here = eqb-true store.location write.location t.0;
      writes = t.1;
      wrote = r.1;
      some = some;
      right = omega (arith, some, right);
    }

-- Where what goes with a store has read something before the write, that is another hart's, and parts them, or its own,
-- and before the load.
not_between : (test : LitmusTest) (rest : List Open) (events final : List MemoryEvent) (index : ℕ)
    (write found : MemoryEvent) (j : ℕ) (store stored : MemoryEvent) → HasPlace test rest events final index write found
    → slice_get final j ≡ Some stored → IsKept rest j store stored
    → is_coherent_execution final ≡ true → is_whole_execution final ≡ true
    → (load : MemoryEvent) → load_of events store ≡ Some load → (one : HasLoad rest events final store stored load)
    → GoesBefore load store → IsRightBefore write store → is_write found ≡ true → is_read load ≡ true
    → stored.rank ≡ store.rank → source_rank final one.event < found.rank → found.rank < stored.rank
    → is_own_behind events write store ≡ false → ⊥
not_between test rest events final index write found j store stored has there kept coherent whole load is one goes next wrote
    reads stands less below not_own =
    let not_it : (write.hart == store.hart && not (nat_lt write.place load.place)) ≡ false =
    sym (ap (λ o. option_map_or (λ l. write.hart == store.hart && not (nat_lt write.place l.place)) o true) is) ∙ not_own in
    elim (cases_Bool (write.hart == store.hart)) [
      | inl own ↦
          let before : write.place < load.place =
          ltb-true write.place load.place (true_of_not (nat_lt write.place load.place)
          (sym (ap (λ b. b && not (nat_lt write.place load.place)) own) ∙ not_it)) in
          let hart : found.hart ≡ one.event.hart =
          has.kept.hart ∙ eqb-true write.hart store.hart own ∙ sym goes.hart ∙ sym one.kept.hart in
          let here : found.location ≡ one.event.location =
          has.kept.location ∙ sym next.here ∙ sym goes.location ∙ sym one.kept.location in
          let wp = has.kept.place in
          let lp = one.kept.place in
          let keeps = pair_in_order (keeps_order final) final index one.index found one.event has.of.candidate.before
          (ordered_of final coherent) has.there one.there hart (omega (arith, wp, lp, before)) in
          let on = on_of final found one.event hart here (or_right (is_read found) (is_write found) wrote) keeps in
          let first = (and_parts (not (is_read one.event) || nat_le (rank_behind final found) (source_rank final one.event))
          (not (is_write one.event) || nat_lt (rank_behind final found) one.event.rank) on).0 in
          let read : is_read one.event ≡ true = ap is_some one.kept.reads ∙ reads in
          let rank : rank_behind final found ≡ found.rank = ap (λ b. if b then found.rank else source_rank final found) wrote in
          let at_least = leb-true found.rank (source_rank final one.event)
          (sym (ap (λ b. not b || nat_le (rank_behind final found) (source_rank final one.event)) read
          ∙ ap (λ n. nat_le n (source_rank final one.event)) rank) ∙ first) in
          omega (arith, at_least, less)
      | inr other ↦
          let stored_writes : is_write stored ≡ true = ap is_some kept.writes ∙ next.wrote in
          let apart_harts : (found.hart == stored.hart) ≡ false =
          ap (λ h. h == stored.hart) has.kept.hart ∙ ap (λ h. write.hart == h) kept.hart ∙ other in
          let others : is_others_write stored found ≡ true =
          all_three (is_write found) (found.location == stored.location) (not (found.hart == stored.hart)) wrote
          (eq-eqb found.location stored.location (has.kept.location ∙ sym next.here ∙ sym kept.location))
          (not_from_false (found.hart == stored.hart) apart_harts) in
          let older : reads_older final stored found.rank ≡ true =
          ap (λ o. option_map_or (λ l. nat_lt (source_rank final l) found.rank) o false) one.is
          ∙ lt-ltb (source_rank final one.event) found.rank less in
          let parted : parts final found stored ≡ true =
          all_three (is_write stored && is_others_write stored found) (nat_lt found.rank stored.rank)
          (reads_older final stored found.rank)
          (ap (λ b. b && is_others_write stored found) stored_writes ∙ others) (lt-ltb found.rank stored.rank below) older in
          let whole_store = all_at (λ s. list_all (λ w. not (parts final w s)) final) final j stored whole there in
          let not_parted = all_at (λ w. not (parts final w stored)) final index found whole_store has.there in
          true≢false (sym not_parted ∙ not_from_true (parts final found stored) parted)
    ]

-- The number of a write right before a store is read by what goes with that, where its hart's own aren't between.
not_handed : (test : LitmusTest) (rest : List Open) (events final : List MemoryEvent) (index : ℕ)
    (write found : MemoryEvent) → HasPlace test rest events final index write found
    → is_coherent_execution final ≡ true → is_whole_execution final ≡ true
    → (f : Fails (is_handed_to events write) events) → ⊥
not_handed test rest events final index write found has coherent whole f =
    let store : MemoryEvent = f.event in
    let s = becomes rest events final f.index store has.of.kept f.is in
    let ends = or_parts (not (is_next write store) || is_own_behind events write store)
    (may_follow events store write.writes) f.fails in
    let more = or_parts (not (is_next write store)) (is_own_behind events write store) ends.0 in
    let n = next_of write store (true_of_not (is_next write store) more.0) in
    let d = does_not_follow rest events final store s.event write.writes (load_of events store) refl ends.1 in
    let one = load_becomes rest events final f.index store s.event d.load has.of.kept f.is s.is s.kept d.is in
    let goes = before_of d.load store d.goes one.own in
    let lower = load_is_lower test rest events final f.index store s.event d.load has.of coherent s.is s.kept one goes n.wrote
    (ap is_some d.reads) in
    let right = n.right in
    let same = has.same in
    let stands : s.event.rank ≡ store.rank = s.kept.placed (omega (arith, right)) in
    let wrote : is_write found ≡ true = ap is_some has.kept.writes ∙ n.writes in
    let at_most : source_rank final one.event ≤ found.rank = omega (arith, lower, stands, right, same) in
    let some = n.some in
    elim (same_or_more found.rank (source_rank final one.event) at_most) [
      | inl is ↦
          elim (read_of test final one.index d.number one.event has.of.candidate one.there (one.kept.reads ∙ d.reads)) [
            | inl start ↦
                let zero_rank = start.rank in
                omega (arith, zero_rank, is, some, same)
            | inr from ↦
                let e : from.write ≡ found =
                same_write test final from.index index from.write found has.of.candidate from.at has.there
                (some_of d.number from.write.writes from.is) wrote
                (from.here ∙ one.kept.location ∙ goes.location ∙ n.here ∙ sym has.kept.location) (sym from.rank ∙ sym is) in
                true≢false (sym from.is ∙ ap (λ x. has_number d.number x.writes) e ∙ ap (has_number d.number) has.kept.writes
                ∙ d.not_it)
          ]
      | inr less ↦
          not_between test rest events final index write found f.index store s.event has s.is s.kept coherent whole d.load d.is
          one goes n wrote (ap is_some d.reads) stands less (omega (arith, right, stands, same)) more.1
    ]

not_handed_on : (test : LitmusTest) (demand : Demand) (rest : List Open) (events final : List MemoryEvent) (index : ℕ)
    (write found : MemoryEvent) → HasPlace test rest events final index write found
    → (not (asks_whole demand) || is_handed_on test events write) ≡ false
    → meets_demand demand test final ≡ true → ⊥
not_handed_on test demand rest events final index write found has fails meets =
    let ends = or_parts (not (asks_whole demand)) (is_handed_on test events write) fails in
    let asks = true_of_not (asks_whole demand) ends.0 in
    let whole = whole_of test demand final meets asks in
    let coherent = coherent_of test demand final meets (all_orders_of demand asks) in
    elim (and_cases (may_be_first test events write) (list_all (is_handed_to events write) events) ends.1) [
      | inl not_so ↦ not_first test rest events final index write found has coherent not_so
      | inr not_so ↦
          not_handed test rest events final index write found has coherent whole
          (fails_at (is_handed_to events write) events not_so)
    ]

not_placed : (test : LitmusTest) (runs : AllRuns) (chosen : List ℕ) (demand : Demand) (rest : List Open)
    (events final : List MemoryEvent) (index : ℕ) (write : MemoryEvent) → AreKept rest events final
    → AreUnsourced rest events → last_place rest write.location < write.rank → slice_get events index ≡ Some write
    → may_have_place test runs chosen demand events write ≡ false → is_wanted test runs chosen demand final ≡ true → ⊥
not_placed test runs chosen demand rest events final index write kept unsourced last at fails wanted =
    let meets = meets_of test runs chosen demand final wanted in
    let candidate = candidate_of test final (numbers_of test demand final meets) in
    let of : IsOf test rest events final = record { kept = kept; unsourced = unsourced; candidate = candidate } in
    let b = becomes rest events final index write kept at in
    let has : HasPlace test rest events final index write b.event = record {
      of = of;
      at = at;
      there = b.is;
      kept = b.kept;
      last = last;
      same = b.kept.placed (omega (arith, last));
    } in
    let first : Bool = not (orders_writes demand) || list_all (stands_before write) events in
    let second : Bool = not (asks_whole demand) || is_handed_on test events write in
    let third : Bool = nat_lt write.rank (writes_at write.location events) || may_end test runs chosen events in
    elim (and_cases (first && second) third fails) [
      | inl not_both ↦ elim (and_cases first second not_both) [
        | inl not_so ↦ not_before_own test demand rest events final index write b.event has not_so meets
        | inr not_so ↦ not_handed_on test demand rest events final index write b.event has not_so meets
      ]
      | inr not_so ↦
          let ends = or_parts (nat_lt write.rank (writes_at write.location events)) (may_end test runs chosen events) not_so in
          let end = (and_parts (may_end test runs chosen final) (meets_demand demand test final) wanted).0 in
          true≢false (sym end ∙ never_ends_so test runs chosen rest events final kept candidate ends.1)
    ]

pub none_placed : (test : LitmusTest) (runs : AllRuns) (chosen : List ℕ) (demand : Demand) (rest : List Open)
    (events : List MemoryEvent) (index : ℕ) (write : MemoryEvent) → AreUnsourced rest events
    → StandsLast rest index events → slice_get events index ≡ Some write
    → may_have_place test runs chosen demand events write ≡ false → NoneComes test runs chosen demand rest events
none_placed test runs chosen demand rest events index write unsourced stands at fails = record {
  each = λ final kept. false_from_ne_true (is_wanted test runs chosen demand final)
      (λ is. not_placed test runs chosen demand rest events final index write kept unsourced
      (if_some (λ w. last_place rest w.location < w.rank) (slice_get events index) write at stands) at fails is);
}
