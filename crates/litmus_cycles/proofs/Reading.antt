-- Where a source is refused: whatever else is decided, its hart doesn't see one order, or what goes with it isn't whole.
use Rattle.std.proofs.Common.{◌≡◌, ℕ, ◌<◌, ◌≤◌, ◌==◌, ◌&&◌, ◌||◌, not, nat_lt, nat_le, Bool, true, false, inl, inr}
use Rattle.std.proofs.Common.{List, slice_get, Option, Some, None, is_some, option_and_then, if◌then◌else◌, sym, ◌∙◌, arith, subst, ap, refl, true≢false}
use Rattle.std.specs.{Option.option_map_or, List.list_all}
use Rattle.std.proofs.lemmas.Bool.{and_parts, and_cases, or_parts, cases_Bool, ltb-true, ltb-false, leb-false, eqb-true, lt-ltb, le-ltb, lt-leb, not_from_true}
use Rattle.litmus_tests.specs.declared.test.LitmusTest.{LitmusTest}
use Rattle.litmus_cycles.specs.declared.{event.MemoryEvent.MemoryEvent, open.Open.Open}
use Rattle.litmus_cycles.specs.Executions.{is_read, is_write, source_rank, has_number, is_failing, is_others_write, is_broken_by_other, load_of, reads_older, all_pairs}
use Rattle.litmus_cycles.specs.OneOrder.{rank_behind, goes_on, keeps_order, writes_behind, is_coherent_execution, is_whole_execution, parts}
use Rattle.litmus_cycles.specs.Refusals.{is_ahead, is_behind, is_whole_with}
use Rattle.litmus_cycles.specs.Kept.{last_place, is_open, IsKept, KeptAt, AreKept}
use Rattle.litmus_cycles.proofs.Pairs.{fails_at, all_at, pair_in_order}
use Rattle.litmus_cycles.proofs.Staying.{IsOf, becomes, rank_same, source_le, source_same, behind_le, read_has_location, IsBroken, broken_of, broken_has_location}

pub false_right : (a b : Bool) → b ≡ false → (a && b) ≡ false
false_right true b e = e
false_right false b e = refl

pub true_of_not : (b : Bool) → not b ≡ false → b ≡ true
true_of_not true e = refl
true_of_not false e = absurd (true≢false e)

pub all_three : (a b c : Bool) → a ≡ true → b ≡ true → c ≡ true → (a && b && c) ≡ true
all_three a b c p q r = ap (λ x. x && b && c) p ∙ ap (λ x. x && c) q ∙ r

same_parts : (rest : List Open) (j k : ℕ) (store write store' write' : MemoryEvent) → IsKept rest j store store'
    → IsKept rest k write write'
    → (is_write store' && is_others_write store' write') ≡ (is_write store && is_others_write store write)
same_parts rest j k store write store' write' kept other = cc

-- An event that has its source, where all writes of its location have their places, and what it comes to.
pub record IsSet (test : LitmusTest) (rest : List Open) (events final : List MemoryEvent) (index : ℕ)
    (event found : MemoryEvent) : Type 0 where
  pub of : IsOf test rest events final
  pub at : slice_get events index ≡ Some event
  pub there : slice_get final index ≡ Some found
  pub kept : IsKept rest index event found
  pub placed : last_place rest event.location ≡ 0
  pub same : source_rank final found ≡ source_rank events event

pub set_read : (test : LitmusTest) (rest : List Open) (events final : List MemoryEvent) (index : ℕ)
    (event found : MemoryEvent) → IsOf test rest events final → slice_get events index ≡ Some event
    → slice_get final index ≡ Some found → IsKept rest index event found → is_open rest index ≡ false
    → last_place rest event.location ≡ 0 → is_read event ≡ true → IsSet test rest events final index event found
set_read test rest events final index event found of at there kept given placed is = record {
  of = of;
  at = at;
  there = there;
  kept = kept;
  placed = placed;
  same = source_same test rest events final index event found of kept
      (read_has_location test final index found of.candidate there (ap is_some kept.reads ∙ is)) given placed;
}

-- An AMO that doesn't write behind what it reads never does.
pub never_behind : (test : LitmusTest) (rest : List Open) (events final : List MemoryEvent) (index : ℕ)
    (event found : MemoryEvent) → IsSet test rest events final index event found
    → writes_behind events event ≡ false → is_coherent_execution final ≡ false
never_behind test rest events final index event found set fails =
    let rank : found.rank ≡ event.rank = rank_same rest index event found set.kept set.placed in
    let behind : ℕ → ℕ → Option ℕ → Option ℕ → Bool =
    λ source place reads writes. not (is_some reads && is_some writes) || nat_lt source place in
    let e : writes_behind final found ≡ writes_behind events event =
    ap (λ s. behind s found.rank found.reads found.writes) set.same
    ∙ ap (λ r. behind (source_rank events event) r found.reads found.writes) rank
    ∙ ap (λ r. behind (source_rank events event) event.rank r found.writes) set.kept.reads
    ∙ ap (λ w. behind (source_rank events event) event.rank event.reads w) set.kept.writes in
    elim (cases_Bool (is_coherent_execution final)) [
      | inl is ↦
          let all = and_parts (all_pairs (keeps_order final) final) (list_all (writes_behind final) final) is in
          let one = all_at (writes_behind final) final index found all.1 set.there in
          absurd (true≢false (sym one ∙ e ∙ fails))
      | inr not_so ↦ not_so
    ]

never_on : (r w : Bool) (behind source rank behind' source' rank' : ℕ)
    → ((not r || nat_le behind source) && (not w || nat_lt behind rank)) ≡ false
    → behind ≤ behind' → (r ≡ true → source' ≤ source) → rank' ≤ rank
    → ((not r || nat_le behind' source') && (not w || nat_lt behind' rank')) ≡ false
never_on false false behind source rank behind' source' rank' fails up down lower = fails
never_on false true behind source rank behind' source' rank' fails up down lower =
    let over = ltb-false behind rank fails in
    le-ltb behind' rank' (omega (arith, over, up, lower))
never_on true false behind source rank behind' source' rank' fails up down lower =
    elim (and_cases (nat_le behind source) true fails) [
      | inl not_so ↦
          let over = leb-false behind source not_so in
          let least = down refl in
          ap (λ b. b && true) (lt-leb behind' source' (omega (arith, over, up, least)))
      | inr not_so ↦ absurd (true≢false not_so)
    ]
never_on true true behind source rank behind' source' rank' fails up down lower =
    elim (and_cases (nat_le behind source) (nat_lt behind rank) fails) [
      | inl not_so ↦
          let over = leb-false behind source not_so in
          let least = down refl in
          ap (λ b. b && nat_lt behind' rank') (lt-leb behind' source' (omega (arith, over, up, least)))
      | inr not_so ↦
          let over = ltb-false behind rank not_so in
          false_right (nat_le behind' source') (nat_lt behind' rank') (le-ltb behind' rank' (omega (arith, over, up, lower)))
    ]

-- What an event is of another: of one hart, of one location, an access.
abbrev is_of_one : MemoryEvent → MemoryEvent → Bool
is_of_one a b = a.hart == b.hart && a.location == b.location && (is_read a || is_write a)

same_one : (rest : List Open) (i j : ℕ) (a b a' b' : MemoryEvent) → IsKept rest i a a' → IsKept rest j b b'
    → is_of_one a' b' ≡ is_of_one a b
same_one rest i j a b a' b' kept other = cc

-- Two events that break the order of their hart, where these are at most what they come to: so do those.
never_ordered : (test : LitmusTest) (rest : List Open) (events final : List MemoryEvent) (i j : ℕ)
    (a b a' b' : MemoryEvent) → IsOf test rest events final → slice_get events i ≡ Some a
    → slice_get final i ≡ Some a' → slice_get final j ≡ Some b' → IsKept rest i a a' → IsKept rest j b b'
    → (is_read b ≡ true → source_rank final b' ≤ source_rank events b) → b'.rank ≤ b.rank
    → a.place < b.place → keeps_order events a b ≡ false → all_pairs (keeps_order final) final ≡ false
never_ordered test rest events final i j a b a' b' of at to there kept other source rank less fails =
    let ends = or_parts (not (is_of_one a b)) (goes_on events a b) fails in
    let one : is_of_one a b ≡ true = true_of_not (is_of_one a b) ends.0 in
    let behind = behind_le test rest events final i a a' of at kept in
    let reads : is_read b' ≡ is_read b = ap is_some other.reads in
    let writes : is_write b' ≡ is_write b = ap is_some other.writes in
    let on : goes_on final a' b' ≡ false =
    ap (λ r. (not r || nat_le (rank_behind final a') (source_rank final b'))
    && (not (is_write b') || nat_lt (rank_behind final a') b'.rank)) reads
    ∙ ap (λ w. (not (is_read b) || nat_le (rank_behind final a') (source_rank final b'))
    && (not w || nat_lt (rank_behind final a') b'.rank)) writes
    ∙ never_on (is_read b) (is_write b) (rank_behind events a) (source_rank events b) b.rank
    (rank_behind final a') (source_rank final b') b'.rank ends.1 behind source rank in
    let broken : keeps_order final a' b' ≡ false =
    ap (λ o. not o || goes_on final a' b') (same_one rest i j a b a' b' kept other ∙ one) ∙ on in
    let parts = and_parts (a.hart == b.hart && a.location == b.location) (is_read a || is_write a) one in
    let own : a.hart ≡ b.hart =
    eqb-true a.hart b.hart (and_parts (a.hart == b.hart) (a.location == b.location) parts.0).0 in
    let p = kept.place in
    let q = other.place in
    elim (cases_Bool (all_pairs (keeps_order final) final)) [
      | inl is ↦
          let keeps = pair_in_order (keeps_order final) final i j a' b' of.candidate.before is to there
          (kept.hart ∙ own ∙ sym other.hart) (omega (arith, p, q, less)) in
          absurd (true≢false (sym keeps ∙ broken))
      | inr not_so ↦ not_so
    ]

-- An event that doesn't go on from one before it, as far as that is decided, never does.
pub never_ahead : (test : LitmusTest) (rest : List Open) (events final : List MemoryEvent) (index : ℕ)
    (event found : MemoryEvent) → IsSet test rest events final index event found
    → list_all (is_ahead events event) events ≡ false → all_pairs (keeps_order final) final ≡ false
never_ahead test rest events final index event found set fails =
    let f = fails_at (is_ahead events event) events fails in
    let b = becomes rest events final f.index f.event set.of.kept f.is in
    let ends = or_parts (not (nat_lt f.event.place event.place)) (keeps_order events f.event event) f.fails in
    let less = ltb-true f.event.place event.place (true_of_not (nat_lt f.event.place event.place) ends.0) in
    let rank = rank_same rest index event found set.kept set.placed in
    let same = set.same in
    never_ordered test rest events final f.index index f.event event b.event found set.of f.is b.is set.there b.kept set.kept
    (λ is. omega (arith, same)) (omega (arith, rank)) less ends.1

-- Nor a write behind it from it.
pub never_followed : (test : LitmusTest) (rest : List Open) (events final : List MemoryEvent) (index : ℕ)
    (event found : MemoryEvent) → IsSet test rest events final index event found
    → list_all (is_behind events event) events ≡ false → all_pairs (keeps_order final) final ≡ false
never_followed test rest events final index event found set fails =
    let f = fails_at (is_behind events event) events fails in
    let b = becomes rest events final f.index f.event set.of.kept f.is in
    let ends = or_parts (not (nat_lt event.place f.event.place) || is_read f.event) (keeps_order events event f.event) f.fails in
    let more = or_parts (not (nat_lt event.place f.event.place)) (is_read f.event) ends.0 in
    let less = ltb-true event.place f.event.place (true_of_not (nat_lt event.place f.event.place) more.0) in
    let one = or_parts (not (is_of_one event f.event)) (goes_on events event f.event) ends.1 in
    let parts = and_parts (event.hart == f.event.hart && event.location == f.event.location) (is_read event || is_write event)
    (true_of_not (is_of_one event f.event) one.0) in
    let here : event.location ≡ f.event.location =
    eqb-true event.location f.event.location
    (and_parts (event.hart == f.event.hart) (event.location == f.event.location) parts.0).1 in
    let rank = rank_same rest f.index f.event b.event b.kept (subst (λ l. last_place rest l ≡ 0) here set.placed) in
    never_ordered test rest events final index f.index event f.event found b.event set.of set.at set.there b.is set.kept b.kept
    (λ is. absurd (true≢false (sym is ∙ more.1))) (omega (arith, rank)) less ends.1

older_by : (events : List MemoryEvent) (event load : MemoryEvent) (rank : ℕ) → load_of events event ≡ Some load
    → reads_older events event rank ≡ nat_lt (source_rank events load) rank
older_by events event load rank is = ap (λ o. option_map_or (λ l. nat_lt (source_rank events l) rank) o false) is

-- Where another hart's write parts a store from the load that goes with it, so it does whatever else is decided.
still_parted : (test : LitmusTest) (rest : List Open) (events final : List MemoryEvent) (j k : ℕ)
    (store write store' write' load load' : MemoryEvent) → IsKept rest j store store' → IsKept rest k write write'
    → load_of events store ≡ Some load → load_of final store' ≡ Some load'
    → source_rank final load' ≡ source_rank events load
    → parts events write store ≡ true → parts final write' store' ≡ true
still_parted test rest events final j k store write store' write' load load' kept other at there same is =
    let a = and_parts (is_write store && is_others_write store write && nat_lt write.rank store.rank)
    (reads_older events store write.rank) is in
    let b = and_parts (is_write store && is_others_write store write) (nat_lt write.rank store.rank) a.0 in
    let older : nat_lt (source_rank events load) write.rank ≡ true = sym (older_by events store load write.rank at) ∙ a.1 in
    let less = ltb-true write.rank store.rank b.1 in
    let more = ltb-true (source_rank events load) write.rank older in
    let placed : write'.rank ≡ write.rank = other.placed (omega (arith, more)) in
    let stands : store'.rank ≡ store.rank = kept.placed (omega (arith, less)) in
    let left : (is_write store' && is_others_write store' write') ≡ true =
    same_parts rest j k store write store' write' kept other ∙ b.0 in
    let mid : nat_lt write'.rank store'.rank ≡ true = lt-ltb write'.rank store'.rank (omega (arith, less, placed, stands)) in
    let last : reads_older final store' write'.rank ≡ true =
    older_by final store' load' write'.rank there
    ∙ lt-ltb (source_rank final load') write'.rank (omega (arith, more, placed, same)) in
    all_three (is_write store' && is_others_write store' write') (nat_lt write'.rank store'.rank)
    (reads_older final store' write'.rank) left mid last

-- A store whose access isn't whole, as far as that is decided, never is.
never_whole : (test : LitmusTest) (rest : List Open) (events final : List MemoryEvent) (j : ℕ)
    (store store' load load' : MemoryEvent) → IsOf test rest events final → slice_get final j ≡ Some store'
    → IsKept rest j store store' → load_of events store ≡ Some load → load_of final store' ≡ Some load'
    → source_rank final load' ≡ source_rank events load
    → list_all (λ write. not (parts events write store)) events ≡ false → is_whole_execution final ≡ false
never_whole test rest events final j store store' load load' of here kept at there same fails =
    let f = fails_at (λ write. not (parts events write store)) events fails in
    let b = becomes rest events final f.index f.event of.kept f.is in
    let parted : parts final b.event store' ≡ true =
    still_parted test rest events final j f.index store f.event store' b.event load load' kept b.kept at there same
    (true_of_not (parts events f.event store) f.fails) in
    elim (cases_Bool (is_whole_execution final)) [
      | inl is ↦
          let one = all_at (λ s. list_all (λ write. not (parts final write s)) final) final j store' is here in
          let two = all_at (λ write. not (parts final write store')) final f.index b.event one b.is in
          absurd (true≢false (sym two ∙ not_from_true (parts final b.event store') parted))
      | inr not_so ↦ not_so
    ]

own_load : (events : List MemoryEvent) (event : MemoryEvent) → is_read event ≡ true → load_of events event ≡ Some event
own_load events event is =
    ap (λ b. if b then Some event else option_and_then (λ index. slice_get events index) event.reserved_by) is

pub never_whole_itself : (test : LitmusTest) (rest : List Open) (events final : List MemoryEvent) (index : ℕ)
    (event found : MemoryEvent) → IsSet test rest events final index event found → is_read event ≡ true
    → list_all (λ write. not (parts events write event)) events ≡ false → is_whole_execution final ≡ false
never_whole_itself test rest events final index event found set is fails =
    never_whole test rest events final index event found event found set.of set.there set.kept (own_load events event is)
    (own_load final found (ap is_some set.kept.reads ∙ is)) set.same fails

has_that : (index : ℕ) (given : Option ℕ) → has_number index given ≡ true → given ≡ Some index
has_that index None is = absurd (true≢false (sym is))
has_that index (Some found) is = ap Some (eqb-true found index is)

reserved_load : (events : List MemoryEvent) (store load : MemoryEvent) (index : ℕ) → is_read store ≡ false
    → store.reserved_by ≡ Some index → slice_get events index ≡ Some load → load_of events store ≡ Some load
reserved_load events store load index not_read by at =
    ap (λ b. if b then Some store else option_and_then (λ i. slice_get events i) store.reserved_by) not_read
    ∙ ap (option_and_then (λ i. slice_get events i)) by ∙ at

pub never_whole_with : (test : LitmusTest) (rest : List Open) (events final : List MemoryEvent) (index : ℕ)
    (event found : MemoryEvent) → IsSet test rest events final index event found
    → list_all (is_whole_with events index) events ≡ false → is_whole_execution final ≡ false
never_whole_with test rest events final index event found set fails =
    let f = fails_at (is_whole_with events index) events fails in
    let b = becomes rest events final f.index f.event set.of.kept f.is in
    let whole : Bool = list_all (λ write. not (parts events write f.event)) events in
    let ends = or_parts (is_read f.event || not (has_number index f.event.reserved_by)) whole f.fails in
    let more = or_parts (is_read f.event) (not (has_number index f.event.reserved_by)) ends.0 in
    let by : f.event.reserved_by ≡ Some index =
    has_that index f.event.reserved_by (true_of_not (has_number index f.event.reserved_by) more.1) in
    never_whole test rest events final f.index f.event b.event event found set.of b.is b.kept
    (reserved_load events f.event event index more.0 by set.at)
    (reserved_load final b.event found index (ap is_some b.kept.reads ∙ more.0) (b.kept.reserved ∙ by) set.there)
    set.same ends.1

others_at : (rest : List Open) (k index : ℕ) (event found : MemoryEvent) (given got : Option MemoryEvent)
    → IsKept rest index event found → KeptAt rest k given got
    → option_map_or (λ write. is_others_write event write) given false
    ≡ option_map_or (λ write. is_others_write found write) got false
others_at rest k index event found None None kept other = refl
others_at rest k index event found None (Some after) kept other = absurd other
others_at rest k index event found (Some before) None kept other = absurd other
others_at rest k index event found (Some before) (Some after) kept other = cc

others_by : (rest : List Open) (events final : List MemoryEvent) (index : ℕ) (event found : MemoryEvent)
    (source : Option ℕ) → AreKept rest events final → IsKept rest index event found
    → option_map_or (λ write. is_others_write event write) (option_and_then (λ k. slice_get events k) source) false
    ≡ option_map_or (λ write. is_others_write found write) (option_and_then (λ k. slice_get final k) source) false
others_by rest events final index event found None all kept = refl
others_by rest events final index event found (Some k) all kept =
    others_at rest k index event found (slice_get events k) (slice_get final k) kept (all.each k)

still_broken : (rest : List Open) (events final : List MemoryEvent) (index : ℕ) (event found : MemoryEvent)
    → AreKept rest events final → IsKept rest index event found → is_open rest index ≡ false
    → is_broken_by_other events event ≡ is_broken_by_other final found
still_broken rest events final index event found all kept given =
    others_by rest events final index event found event.source all kept
    ∙ ap (λ s. option_map_or (λ write. is_others_write found write) (option_and_then (λ k. slice_get final k) s) false)
    (sym (kept.sourced given))

less_at : (test : LitmusTest) (rest : List Open) (events final : List MemoryEvent) (k rank : ℕ)
    (given got : Option MemoryEvent) → IsOf test rest events final → slice_get events k ≡ given → KeptAt rest k given got
    → option_map_or (λ load. nat_lt (source_rank final load) rank) got false ≡ true
    → option_map_or (λ load. nat_lt (source_rank events load) rank) given false ≡ true
less_at test rest events final k rank None None of at kept is = is
less_at test rest events final k rank None (Some after) of at kept is = absurd kept
less_at test rest events final k rank (Some before) None of at kept is = absurd kept
less_at test rest events final k rank (Some before) (Some after) of at kept is =
    let le = source_le test rest events final k before after of at kept in
    let less = ltb-true (source_rank final after) rank is in
    lt-ltb (source_rank events before) rank (omega (arith, le, less))

less_by : (test : LitmusTest) (rest : List Open) (events final : List MemoryEvent) (rank : ℕ) (by : Option ℕ)
    → IsOf test rest events final
    → option_map_or (λ load. nat_lt (source_rank final load) rank) (option_and_then (λ k. slice_get final k) by) false ≡ true
    → option_map_or (λ load. nat_lt (source_rank events load) rank) (option_and_then (λ k. slice_get events k) by) false
    ≡ true
less_by test rest events final rank None of is = is
less_by test rest events final rank (Some k) of is =
    less_at test rest events final k rank (slice_get events k) (slice_get final k) of refl (of.kept.each k) is

was_older : (test : LitmusTest) (rest : List Open) (events final : List MemoryEvent) (index : ℕ)
    (event found : MemoryEvent) → IsOf test rest events final → IsKept rest index event found → is_read event ≡ false
    → (rank : ℕ) → reads_older final found rank ≡ true → reads_older events event rank ≡ true
was_older test rest events final index event found of kept not_read rank is =
    let older : Option MemoryEvent → Bool = λ o. option_map_or (λ load. nat_lt (source_rank final load) rank) o false in
    let there : older (option_and_then (λ k. slice_get final k) event.reserved_by) ≡ true =
    sym (ap (λ b. older (if b then Some found else option_and_then (λ k. slice_get final k) found.reserved_by))
    (ap is_some kept.reads ∙ not_read)
    ∙ ap (λ r. older (option_and_then (λ k. slice_get final k) r)) kept.reserved) ∙ is in
    ap (λ b. option_map_or (λ load. nat_lt (source_rank events load) rank)
    (if b then Some event else option_and_then (λ k. slice_get events k) event.reserved_by) false) not_read
    ∙ less_by test rest events final rank event.reserved_by of there

both_true : (a b : Bool) → a ≡ true → b ≡ true → (a && b) ≡ true
both_true a b p q = ap (λ x. x && b) p ∙ q

-- A store-conditional that nothing breaks, as far as that is decided, can't fail.
pub never_broken : (test : LitmusTest) (rest : List Open) (events final : List MemoryEvent) (index : ℕ)
    (event found : MemoryEvent) → IsOf test rest events final → slice_get final index ≡ Some found
    → IsKept rest index event found → is_open rest index ≡ false → last_place rest event.location ≡ 0
    → is_read event ≡ false → is_failing events event ≡ false → ⊥
never_broken test rest events final index event found of there kept given placed not_read fails =
    let ends = or_parts (is_read event || is_write event) (is_broken_by_other events event && reads_older events event (source_rank events event)) fails in
    let not_write = (or_parts (is_read event) (is_write event) ends.0).1 in
    let broken : IsBroken final found =
    broken_of final found (all_at (is_failing final) final index found of.candidate.failing there)
    (ap is_some kept.reads ∙ not_read) (ap is_some kept.writes ∙ not_write) in
    let same = source_same test rest events final index event found of kept (broken_has_location final found broken) given placed in
    let by : is_broken_by_other events event ≡ true = still_broken rest events final index event found of.kept kept given ∙ broken.by in
    let older : reads_older events event (source_rank events event) ≡ true =
    was_older test rest events final index event found of kept not_read (source_rank events event)
    (ap (reads_older final found) (sym same) ∙ broken.older) in
    absurd (true≢false (sym (both_true (is_broken_by_other events event) (reads_older events event (source_rank events event)) by older) ∙ ends.1))
