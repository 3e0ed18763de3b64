-- All that comes of events keeps what is decided of them, and each choice leaves the rest ready.
use Rattle.std.proofs.Common.{◌≡◌, ℕ, zero, suc, ◌<◌, ◌-◌, ◌==◌, ◌&&◌, nat_lt, Bool, true, false, cond, inl, inr, if◌then◌else◌}
use Rattle.std.proofs.Common.{List, [], ◌∷◌, ◌++◌, length, filter, slice_get, slice_set, Option, Some, None, IfSome, sym, ◌∙◌, arith, subst, ap, ap₂, refl, true≢false}
use Rattle.std.specs.Option.{option_map_or}
use Rattle.std.proofs.Math.Nat.{le-max_left, le-max_right}
use Rattle.std.proofs.lemmas.Bool.{and_parts, or_parts, or_right, cases_Bool, eqb-true, eq-eqb, eqb-false}
use Rattle.std.proofs.lemmas.List.Elements.{filter-append}
use Rattle.litmus_tests.specs.declared.test.LitmusTest.{LitmusTest}
use Rattle.litmus_runs.specs.declared.runs.AllRuns.{AllRuns}
use Rattle.litmus_cycles.specs.declared.{event.MemoryEvent.MemoryEvent, open.Open.Open, demand.Demand.Demand}
use Rattle.litmus_cycles.specs.declared.open.Open.TheVariants.{Place, Source}
use Rattle.litmus_cycles.specs.Executions.{is_write}
use Rattle.litmus_cycles.specs.Choices.{may_start, may_have, may_choose, with_rank, with_source, with_choice, joined, come_of, come}
use Rattle.litmus_cycles.specs.Kept.{place_of, last_place, is_source_of, is_open, IsKept, KeptAt, AreKept, NoneComes, IsDecided, IsNext, AreNext, IsReady}
use Rattle.litmus_cycles.specs.Searched.{is_wanted}
use Rattle.litmus_cycles.proofs.Staying.{zero_or_more, if_some}

kept_same : (index : ℕ) (found : Option MemoryEvent) → KeptAt [] index found found
kept_same index None = tt
kept_same index (Some event) = record {
  hart = refl;
  place = refl;
  location = refl;
  reads = refl;
  writes = refl;
  reserved = refl;
  placed = λ some. refl;
  free = λ none. omega (arith, none);
  sourced = λ given. refl;
}

-- What keeps what is decided where less is open keeps it where more is.
wider : (what : Open) (rest : List Open) (index : ℕ) (event final : MemoryEvent) → IsKept rest index event final
    → IsKept (what ∷ rest) index event final
wider what rest index event final kept = record {
  hart = kept.hart;
  place = kept.place;
  location = kept.location;
  reads = kept.reads;
  writes = kept.writes;
  reserved = kept.reserved;
  placed = kept.placed;
  free = λ none.
      let few = kept.free none in
      let more = le-max_right (place_of what event.location) (last_place rest event.location) in
      omega (arith, few, more);
  sourced = λ given. kept.sourced (or_parts (is_source_of what index) (is_open rest index) given).1;
}

wider_at : (what : Open) (rest : List Open) (index : ℕ) (given got : Option MemoryEvent) → KeptAt rest index given got
    → KeptAt (what ∷ rest) index given got
wider_at what rest index None None kept = kept
wider_at what rest index None (Some after) kept = absurd kept
wider_at what rest index (Some before) None kept = absurd kept
wider_at what rest index (Some before) (Some after) kept = wider what rest index before after kept

-- A list where one is changed.
pub set_same : (xs : List MemoryEvent) (i : ℕ) (x y : MemoryEvent) → slice_get xs i ≡ Some y
    → slice_get (slice_set xs i x) i ≡ Some x
set_same [] i x y at = cc
set_same (z ∷ xs) zero x y at = refl
set_same (z ∷ xs) (suc i) x y at = set_same xs i x y at

pub set_other : (xs : List MemoryEvent) (i j : ℕ) (x : MemoryEvent) → (j ≡ i → ⊥)
    → slice_get (slice_set xs i x) j ≡ slice_get xs j
set_other [] i j x apart = refl
set_other (z ∷ xs) zero zero x apart = absurd (apart refl)
set_other (z ∷ xs) zero (suc j) x apart = refl
set_other (z ∷ xs) (suc i) zero x apart = refl
set_other (z ∷ xs) (suc i) (suc j) x apart = set_other xs i j x (λ e. apart (ap suc e))

-- A choice changes one event.
record Changes (events next : List MemoryEvent) (index : ℕ) (event changed : MemoryEvent) : Type 0 where
  pub was : slice_get events index ≡ Some event
  pub is : slice_get next index ≡ Some changed
  pub others : (other : ℕ) → (other ≡ index → ⊥) → slice_get next other ≡ slice_get events other

changes_of : (events next : List MemoryEvent) (index : ℕ) (event changed : MemoryEvent) → slice_get events index ≡ Some event
    → next ≡ slice_set events index changed → Changes events next index event changed
changes_of events next index event changed at is = record {
  was = at;
  is = ap (λ es. slice_get es index) is ∙ set_same events index changed event at;
  others = λ other apart. ap (λ es. slice_get es other) is ∙ set_other events index other changed apart;
}

record HasPlaced (events : List MemoryEvent) (location rank index : ℕ) : Type 0 where
  pub event : MemoryEvent
  pub changes : Changes events (with_rank events index rank) index event (record event { rank = rank })
  pub here : event.location ≡ location
  pub free : event.rank ≡ 0

has_placed : (events : List MemoryEvent) (location rank index : ℕ) (found : Option MemoryEvent)
    → slice_get events index ≡ found
    → option_map_or (λ event. event.location == location && is_write event && event.rank == 0) found false ≡ true
    → HasPlaced events location rank index
has_placed events location rank index None at may = absurd (true≢false (sym may))
has_placed events location rank index (Some event) at may =
    let p = and_parts (event.location == location && is_write event) (event.rank == 0) may in
    record {
      event = event;
      changes = changes_of events (with_rank events index rank) index event (record event { rank = rank }) at
          (ap (λ o. option_map_or (λ e. slice_set events index (record e { rank = rank })) o events) at);
      here = eqb-true event.location location (and_parts (event.location == location) (is_write event) p.0).0;
      free = eqb-true event.rank 0 p.1;
    }

abbrev source_of : List MemoryEvent → ℕ → Option ℕ
source_of events choice = if nat_lt choice (length events) then Some choice else None

record HasSourced (events : List MemoryEvent) (index choice : ℕ) : Type 0 where
  pub event : MemoryEvent
  pub changes : Changes events (with_source events index choice) index event
      (record event { source = source_of events choice })

has_sourced : (test : LitmusTest) (events : List MemoryEvent) (index choice : ℕ) (found : Option MemoryEvent)
    → slice_get events index ≡ found
    → option_map_or (λ event. option_map_or (λ write. may_have event write (choice == index)) (slice_get events choice)
    (may_start test event)) found false ≡ true
    → HasSourced events index choice
has_sourced test events index choice None at may = absurd (true≢false (sym may))
has_sourced test events index choice (Some event) at may = record {
  event = event;
  changes = changes_of events (with_source events index choice) index event
      (record event { source = source_of events choice }) at
      (ap (λ o. option_map_or (λ e. slice_set events index (record e { source = source_of events choice })) o events) at);
}

placed_kept : (location rank : ℕ) (rest : List Open) (index : ℕ) (event final : MemoryEvent) → event.location ≡ location
    → event.rank ≡ 0 → IsKept rest index (record event { rank = rank }) final
    → IsKept (Place location rank ∷ rest) index event final
placed_kept location rank rest index event final here free kept = record {
  hart = kept.hart;
  place = kept.place;
  location = kept.location;
  reads = kept.reads;
  writes = kept.writes;
  reserved = kept.reserved;
  placed = λ some. absurd (omega (arith, some, free));
  free = λ none.
      let mine : place_of (Place location rank) event.location ≡ rank =
      ap (λ b. if b then rank else 0) (eq-eqb location event.location (sym here)) in
      let left = le-max_left (place_of (Place location rank) event.location) (last_place rest event.location) in
      let right = le-max_right (place_of (Place location rank) event.location) (last_place rest event.location) in
      elim (zero_or_more rank) [
        | inl zero_rank ↦
            let few = kept.free zero_rank in
            omega (arith, few, right)
        | inr some ↦
            let same = kept.placed some in
            omega (arith, same, mine, left)
      ];
  sourced = λ given. kept.sourced given;
}

placed_at : (location rank : ℕ) (rest : List Open) (index : ℕ) (event : MemoryEvent) (given got : Option MemoryEvent)
    → given ≡ Some event → event.location ≡ location → event.rank ≡ 0
    → KeptAt rest index (Some (record event { rank = rank })) got → KeptAt (Place location rank ∷ rest) index given got
placed_at location rank rest index event given None at here free kept = absurd kept
placed_at location rank rest index event given (Some final) at here free kept =
    subst (λ o. KeptAt (Place location rank ∷ rest) index o (Some final)) (sym at)
    (placed_kept location rank rest index event final here free kept)

sourced_kept : (here : ℕ) (source : Option ℕ) (rest : List Open) (index : ℕ) (event final : MemoryEvent) → index ≡ here
    → IsKept rest index (record event { source = source }) final → IsKept (Source here ∷ rest) index event final
sourced_kept here source rest index event final same kept = record {
  hart = kept.hart;
  place = kept.place;
  location = kept.location;
  reads = kept.reads;
  writes = kept.writes;
  reserved = kept.reserved;
  placed = kept.placed;
  free = λ none.
      let few = kept.free none in
      let more = le-max_right (place_of (Source here) event.location) (last_place rest event.location) in
      omega (arith, few, more);
  sourced = λ given.
      absurd (true≢false (sym (eq-eqb here index (sym same)) ∙ (or_parts (here == index) (is_open rest index) given).0));
}

sourced_at : (here : ℕ) (source : Option ℕ) (rest : List Open) (index : ℕ) → index ≡ here → (event : MemoryEvent)
    (given got : Option MemoryEvent) → given ≡ Some event
    → KeptAt rest index (Some (record event { source = source })) got → KeptAt (Source here ∷ rest) index given got
sourced_at here source rest index same event given None at kept = absurd kept
sourced_at here source rest index same event given (Some final) at kept =
    subst (λ o. KeptAt (Source here ∷ rest) index o (Some final)) (sym at)
    (sourced_kept here source rest index event final same kept)

pub widened : (test : LitmusTest) (what : Open) (rest : List Open) (choice : ℕ) (events final : List MemoryEvent)
    → may_choose test what choice events ≡ true → AreKept rest (with_choice what choice events) final
    → AreKept (what ∷ rest) events final
widened test (Place location rank) rest choice events final may kept = record {
  each = λ index.
      let h = has_placed events location rank choice (slice_get events choice) refl may in
      elim (cases_Bool (index == choice)) [
        | inl same ↦
            let e : index ≡ choice = eqb-true index choice same in
            placed_at location rank rest index h.event (slice_get events index) (slice_get final index)
            (ap (slice_get events) e ∙ h.changes.was) h.here h.free
            (subst (λ o. KeptAt rest index o (slice_get final index))
            (ap (slice_get (with_rank events choice rank)) e ∙ h.changes.is) (kept.each index))
        | inr other ↦
            wider_at (Place location rank) rest index (slice_get events index) (slice_get final index)
            (subst (λ o. KeptAt rest index o (slice_get final index)) (h.changes.others index (eqb-false index choice other))
            (kept.each index))
      ];
}
widened test (Source here) rest choice events final may kept = record {
  each = λ index.
      let h = has_sourced test events here choice (slice_get events here) refl may in
      elim (cases_Bool (index == here)) [
        | inl same ↦
            let e : index ≡ here = eqb-true index here same in
            sourced_at here (source_of events choice) rest index e h.event (slice_get events index) (slice_get final index)
            (ap (slice_get events) e ∙ h.changes.was)
            (subst (λ o. KeptAt rest index o (slice_get final index))
            (ap (slice_get (with_source events here choice)) e ∙ h.changes.is) (kept.each index))
        | inr other ↦
            wider_at (Source here) rest index (slice_get events index) (slice_get final index)
            (subst (λ o. KeptAt rest index o (slice_get final index)) (h.changes.others index (eqb-false index here other))
            (kept.each index))
      ];
}

filter_joined : {X : Type 0} (p : X → Bool) (each : ℕ → List X) (count : ℕ) → ((k : ℕ) → filter p (each k) ≡ [])
    → filter p (joined each count) ≡ []
filter_joined p each zero none = refl
filter_joined p each (suc count) none =
    filter-append p (joined each count) (each count)
    ∙ ap₂ (λ xs ys. xs ++ ys) (filter_joined p each count none) (none count)

filter_one : (p : List MemoryEvent → Bool) (events : List MemoryEvent) → p events ≡ false → filter p (events ∷ []) ≡ []
filter_one p events fails = ap (λ b. cond b (events ∷ []) []) fails

none_of_choice : (test : LitmusTest) (p : List MemoryEvent → Bool) (what : Open) (rest : List Open)
    (events : List MemoryEvent) (choice : ℕ)
    → ((final : List MemoryEvent) → AreKept (what ∷ rest) events final → p final ≡ false)
    → ((next : List MemoryEvent) → ((final : List MemoryEvent) → AreKept rest next final → p final ≡ false)
    → filter p (come test rest next) ≡ [])
    → filter p (come_of test (come test rest) what events choice) ≡ []
none_of_choice test p what rest events choice none behind = elim (cases_Bool (may_choose test what choice events)) [
  | inl may ↦
      ap (λ b. filter p (if b then come test rest (with_choice what choice events) else [])) may
      ∙ behind (with_choice what choice events)
      (λ final kept. none final (widened test what rest choice events final may kept))
  | inr may_not ↦ ap (λ b. filter p (if b then come test rest (with_choice what choice events) else [])) may_not
]

-- Where none that keeps what is decided passes, none of what comes does.
pub none_come : (test : LitmusTest) (p : List MemoryEvent → Bool) (left : List Open) (events : List MemoryEvent)
    → ((final : List MemoryEvent) → AreKept left events final → p final ≡ false) → filter p (come test left events) ≡ []
none_come test p [] events none =
    filter_one p events (none events (record { each = λ index. kept_same index (slice_get events index) }))
none_come test p (what ∷ rest) events none =
    filter_joined p (λ turn. come_of test (come test rest) what events (length events - turn)) (suc (length events))
    (λ turn. none_of_choice test p what rest events (length events - turn) none
    (λ next all. none_come test p rest next all))

-- Nothing wanted comes of a choice of which none comes.
pub none_wanted : (test : LitmusTest) (runs : AllRuns) (chosen : List ℕ) (demand : Demand) (rest : List Open)
    (events : List MemoryEvent) → NoneComes test runs chosen demand rest events
    → filter (is_wanted test runs chosen demand) (come test rest events) ≡ []
none_wanted test runs chosen demand rest events none =
    none_come test (is_wanted test runs chosen demand) rest events none.each

-- What holds of an event holds of what a choice makes of it, where that keeps it.
moved : (P : MemoryEvent → Type 0) (events next : List MemoryEvent) (index : ℕ) (event changed : MemoryEvent) (other : ℕ)
    → Changes events next index event changed → (P event → P changed)
    → IfSome (slice_get events other) P → IfSome (slice_get next other) P
moved P events next index event changed other changes keeps holds = elim (cases_Bool (other == index)) [
  | inl same ↦
      let e : other ≡ index = eqb-true other index same in
      subst (λ o. IfSome o P) (sym (ap (slice_get next) e ∙ changes.is))
      (keeps (if_some P (slice_get events other) event (ap (slice_get events) e ∙ changes.was) holds))
  | inr apart ↦
      subst (λ o. IfSome o P) (sym (changes.others other (eqb-false other index apart))) holds
]

-- So it does for each event, where it keeps locations, and sources that are open.
record Keeps (rest : List Open) (events next : List MemoryEvent) : Type 0 where
  pub placed : (others : List Open) (index : ℕ) → IfSome (slice_get events index) (λ e. last_place others e.location ≡ 0)
      → IfSome (slice_get next index) (λ e. last_place others e.location ≡ 0)
  pub unsourced : (index : ℕ) → is_open rest index ≡ true → IfSome (slice_get events index) (λ e. e.source ≡ None)
      → IfSome (slice_get next index) (λ e. e.source ≡ None)

keeps_placed : (rest : List Open) (events : List MemoryEvent) (location rank choice : ℕ)
    → HasPlaced events location rank choice → Keeps rest events (with_rank events choice rank)
keeps_placed rest events location rank choice h = record {
  placed = λ others index holds.
      moved (λ e. last_place others e.location ≡ 0) events (with_rank events choice rank) choice h.event
      (record h.event { rank = rank }) index h.changes (λ p. p) holds;
  unsourced = λ index opened holds.
      moved (λ e. e.source ≡ None) events (with_rank events choice rank) choice h.event
      (record h.event { rank = rank }) index h.changes (λ p. p) holds;
}

keeps_sourced : (rest : List Open) (events : List MemoryEvent) (here choice : ℕ) → HasSourced events here choice
    → is_open rest here ≡ false → Keeps rest events (with_source events here choice)
keeps_sourced rest events here choice h given = record {
  placed = λ others index holds.
      moved (λ e. last_place others e.location ≡ 0) events (with_source events here choice) here h.event
      (record h.event { source = source_of events choice }) index h.changes (λ p. p) holds;
  unsourced = λ index opened holds.
      subst (λ o. IfSome o (λ e. e.source ≡ None))
      (sym (h.changes.others index (λ e. true≢false (sym opened ∙ ap (is_open rest) e ∙ given)))) holds;
}

next_stays : (others : List Open) (what : Open) (rest : List Open) (events next : List MemoryEvent)
    → Keeps others events next → IsNext rest what events → IsNext rest what next
next_stays others (Place location rank) rest events next keeps is = is
next_stays others (Source index) rest events next keeps is =
    record { sourced = is.sourced; placed = keeps.placed rest index is.placed }

all_next_stay : (others left : List Open) (events next : List MemoryEvent) → Keeps others events next
    → AreNext left events → AreNext left next
all_next_stay others [] events next keeps are = tt
all_next_stay others (what ∷ rest) events next keeps are =
    (next_stays others what rest events next keeps are.0, all_next_stay others rest events next keeps are.1)

ready_by : (what : Open) (rest : List Open) (events next : List MemoryEvent) → Keeps rest events next
    → IsReady (what ∷ rest) events → IsReady rest next
ready_by what rest events next keeps ready = record {
  next = all_next_stay rest rest events next keeps ready.next.1;
  unsourced = λ index opened. keeps.unsourced index opened
      (ready.unsourced index (or_right (is_source_of what index) (is_open rest index) opened));
}

-- Behind a choice the rest is ready, and what was open is decided by it.
pub ready_next : (test : LitmusTest) (what : Open) (rest : List Open) (choice : ℕ) (events : List MemoryEvent)
    → may_choose test what choice events ≡ true → IsReady (what ∷ rest) events
    → IsReady rest (with_choice what choice events)
ready_next test (Place location rank) rest choice events may ready =
    ready_by (Place location rank) rest events (with_rank events choice rank)
    (keeps_placed rest events location rank choice
    (has_placed events location rank choice (slice_get events choice) refl may)) ready
ready_next test (Source here) rest choice events may ready =
    ready_by (Source here) rest events (with_source events here choice)
    (keeps_sourced rest events here choice (has_sourced test events here choice (slice_get events here) refl may)
    ready.next.0.sourced) ready

pub decided_next : (test : LitmusTest) (what : Open) (rest : List Open) (choice : ℕ) (events : List MemoryEvent)
    → may_choose test what choice events ≡ true → IsReady (what ∷ rest) events
    → IsDecided rest what choice (with_choice what choice events)
decided_next test (Place location rank) rest choice events may ready =
    let h = has_placed events location rank choice (slice_get events choice) refl may in
    subst (λ o. IfSome o (λ w. last_place rest w.location < w.rank)) (sym h.changes.is)
    (subst (λ l. last_place rest l < rank) (sym h.here) ready.next.0)
decided_next test (Source here) rest choice events may ready =
    let h = has_sourced test events here choice (slice_get events here) refl may in
    record {
      sourced = ready.next.0.sourced;
      placed = (keeps_sourced rest events here choice h ready.next.0.sourced).placed rest here ready.next.0.placed;
    }
