-- What is known of a candidate that keeps what is decided of events: their ranks and sources are at most its own, and
-- those that are decided are its own.
use Rattle.std.proofs.Common.{◌≡◌, ℕ, zero, suc, ◌<◌, ◌≤◌, ◌==◌, ◌&&◌, ◌||◌, not, Bool, true, false, ◌⊎◌, inl, inr}
use Rattle.std.proofs.Common.{List, slice_get, Option, Some, None, is_some, option_and_then, IfSome, if◌then◌else◌, sym, ◌∙◌, arith, subst, ap, refl, true≢false}
use Rattle.std.specs.{Option.option_map_or}
use Rattle.std.proofs.lemmas.Bool.{and_parts, cases_Bool, eqb-true}
use Rattle.litmus_tests.specs.declared.test.LitmusTest.{LitmusTest}
use Rattle.litmus_cycles.specs.declared.{event.MemoryEvent.MemoryEvent, open.Open.Open}
use Rattle.litmus_cycles.specs.Executions.{is_read, is_write, source_rank, has_number, written_at, given_by, is_sourced, is_failing, is_others_write, is_broken_by_other, reads_older}
use Rattle.litmus_cycles.specs.OneOrder.{rank_behind}
use Rattle.litmus_cycles.specs.Kept.{last_place, is_open, IsKept, KeptAt, AreKept, AreUnsourced}
use Rattle.litmus_cycles.proofs.Pairs.{IsCandidate, all_at}

-- A candidate that keeps what is decided here.
pub record IsOf (test : LitmusTest) (rest : List Open) (events final : List MemoryEvent) : Type 0 where
  pub kept : AreKept rest events final
  pub unsourced : AreUnsourced rest events
  pub candidate : IsCandidate test final

-- What an event comes to.
pub record Becomes (rest : List Open) (final : List MemoryEvent) (index : ℕ) (before : MemoryEvent) : Type 0 where
  pub event : MemoryEvent
  pub is : slice_get final index ≡ Some event
  pub kept : IsKept rest index before event

becomes_of : (rest : List Open) (final : List MemoryEvent) (index : ℕ) (given got : Option MemoryEvent) (event : MemoryEvent)
    → slice_get final index ≡ got → given ≡ Some event → KeptAt rest index given got → Becomes rest final index event
becomes_of rest final index None None event is at kept = cc
becomes_of rest final index None (Some found) event is at kept = absurd kept
becomes_of rest final index (Some before) None event is at kept = absurd kept
becomes_of rest final index (Some before) (Some found) event is at kept =
    let e : before ≡ event = cc in
    record { event = found; is = is; kept = subst (λ z. IsKept rest index z found) e kept }

pub becomes : (rest : List Open) (events final : List MemoryEvent) (index : ℕ) (event : MemoryEvent)
    → AreKept rest events final → slice_get events index ≡ Some event → Becomes rest final index event
becomes rest events final index event kept at =
    becomes_of rest final index (slice_get events index) (slice_get final index) event refl at (kept.each index)

pub zero_or_more : (n : ℕ) → (n ≡ 0) ⊎ (0 < n)
zero_or_more zero = inl refl
zero_or_more (suc n) = inr (omega arith)

pub rank_le : (rest : List Open) (index : ℕ) (event final : MemoryEvent) → IsKept rest index event final
    → event.rank ≤ final.rank
rank_le rest index event final kept = elim (zero_or_more event.rank) [
  | inl none ↦ omega (arith, none)
  | inr some ↦
      let same = kept.placed some in
      omega (arith, same)
]

pub rank_same : (rest : List Open) (index : ℕ) (event final : MemoryEvent) → IsKept rest index event final
    → last_place rest event.location ≡ 0 → final.rank ≡ event.rank
rank_same rest index event final kept all = elim (zero_or_more event.rank) [
  | inl none ↦
      let few = kept.free none in
      omega (arith, few, all, none)
  | inr some ↦ kept.placed some
]

-- The rank of what stands at a place, if something does.
abbrev rank_of : Option MemoryEvent → ℕ
rank_of found = option_map_or (λ source. source.rank) found 0

rank_of_le : (rest : List Open) (index : ℕ) (given got : Option MemoryEvent) → KeptAt rest index given got
    → rank_of given ≤ rank_of got
rank_of_le rest index None None kept = omega arith
rank_of_le rest index None (Some found) kept = absurd kept
rank_of_le rest index (Some before) None kept = absurd kept
rank_of_le rest index (Some before) (Some found) kept = rank_le rest index before found kept

abbrev rank_by : List MemoryEvent → Option ℕ → ℕ
rank_by events source = rank_of (option_and_then (λ index. slice_get events index) source)

rank_by_le : (rest : List Open) (events final : List MemoryEvent) (source : Option ℕ) → AreKept rest events final
    → rank_by events source ≤ rank_by final source
rank_by_le rest events final None kept = omega arith
rank_by_le rest events final (Some index) kept =
    rank_of_le rest index (slice_get events index) (slice_get final index) (kept.each index)

none_in : {X : Type 0} (P : X → Type 0) (found : Option X) (x : X) → found ≡ Some x → IfSome found P → P x
none_in P None x at holds = cc
none_in P (Some y) x at holds =
    let e : y ≡ x = cc in
    subst P e holds

pub if_some : {X : Type 0} (P : X → Type 0) (found : Option X) (x : X) → found ≡ Some x → IfSome found P → P x
if_some P found x at holds = none_in P found x at holds

-- What an event has read so far is at most what it reads.
pub source_le : (test : LitmusTest) (rest : List Open) (events final : List MemoryEvent) (index : ℕ) (event found : MemoryEvent)
    → IsOf test rest events final → slice_get events index ≡ Some event → IsKept rest index event found
    → source_rank events event ≤ source_rank final found
source_le test rest events final index event found of at kept = elim (cases_Bool (is_open rest index)) [
  | inl opened ↦
      let none : event.source ≡ None =
      if_some (λ e. e.source ≡ None) (slice_get events index) event at (of.unsourced index opened) in
      let least : source_rank events event ≡ 0 = ap (rank_by events) none in
      omega (arith, least)
  | inr given ↦
      let same : rank_by final event.source ≡ source_rank final found = ap (rank_by final) (sym (kept.sourced given)) in
      let le : source_rank events event ≤ rank_by final event.source =
      rank_by_le rest events final event.source of.kept in
      omega (arith, same, le)
]

-- The source of an event is at its location.
pub record HasLocation (final : List MemoryEvent) (event : MemoryEvent) : Type 0 where
  pub at : (index : ℕ) (source : MemoryEvent) → event.source ≡ Some index → slice_get final index ≡ Some source
      → source.location ≡ event.location

rank_of_same : (rest : List Open) (index location : ℕ) (given got : Option MemoryEvent) → KeptAt rest index given got
    → ((source : MemoryEvent) → got ≡ Some source → source.location ≡ location) → last_place rest location ≡ 0
    → rank_of got ≡ rank_of given
rank_of_same rest index location None None kept here all = refl
rank_of_same rest index location None (Some found) kept here all = absurd kept
rank_of_same rest index location (Some before) None kept here all = absurd kept
rank_of_same rest index location (Some before) (Some found) kept here all =
    let e : location ≡ before.location = sym (here found refl) ∙ kept.location in
    rank_same rest index before found kept (subst (λ l. last_place rest l ≡ 0) e all)

rank_by_same : (rest : List Open) (events final : List MemoryEvent) (location : ℕ) (source : Option ℕ)
    → AreKept rest events final
    → ((index : ℕ) (found : MemoryEvent) → source ≡ Some index → slice_get final index ≡ Some found → found.location ≡ location)
    → last_place rest location ≡ 0 → rank_by final source ≡ rank_by events source
rank_by_same rest events final location None kept here all = refl
rank_by_same rest events final location (Some index) kept here all =
    rank_of_same rest index location (slice_get events index) (slice_get final index) (kept.each index)
    (λ found at. here index found refl at) all

-- What an event reads that has its source, where all writes of its location have their places.
pub source_same : (test : LitmusTest) (rest : List Open) (events final : List MemoryEvent) (index : ℕ)
    (event found : MemoryEvent)
    → IsOf test rest events final → IsKept rest index event found → HasLocation final found
    → is_open rest index ≡ false → last_place rest event.location ≡ 0
    → source_rank final found ≡ source_rank events event
source_same test rest events final index event found of kept here given all =
    ap (rank_by final) (kept.sourced given)
    ∙ rank_by_same rest events final event.location event.source of.kept
    (λ k source is at. here.at k source (kept.sourced given ∙ is) at ∙ kept.location) all

written_here : (location number : ℕ) (source : MemoryEvent) → has_number number (written_at source location) ≡ true
    → source.location ≡ location
written_here location number source is = elim (cases_Bool (source.location == location)) [
  | inl same ↦ eqb-true source.location location same
  | inr other ↦
      let none : written_at source location ≡ None = ap (λ b. if b then source.writes else None) other in
      let not_so : false ≡ true = ap (has_number number) (sym none) ∙ is in
      absurd (true≢false (sym not_so))
]

-- Of a read.
read_here : (test : LitmusTest) (final : List MemoryEvent) (event : MemoryEvent) (reads source : Option ℕ)
    → event.reads ≡ reads → event.source ≡ source → is_some reads ≡ true → is_sourced test final event ≡ true
    → (index : ℕ) (found : MemoryEvent) → source ≡ Some index → slice_get final index ≡ Some found
    → found.location ≡ event.location
read_here test final event None source what from some is index found at there = absurd (true≢false (sym some))
read_here test final event (Some number) source what from some is index found at there =
    let given : given_by (Some index) test final event ≡ written_at found event.location =
    ap (option_and_then (λ s. written_at s event.location)) there in
    let one : is_sourced test final event ≡ has_number number (given_by event.source test final event) =
    ap (λ r. option_map_or (λ n. has_number n (given_by event.source test final event)) r true) what in
    let two : given_by event.source test final event ≡ written_at found event.location =
    ap (λ s. given_by s test final event) (from ∙ at) ∙ given in
    written_here event.location number found (sym (ap (has_number number) two) ∙ sym one ∙ is)

pub read_has_location : (test : LitmusTest) (final : List MemoryEvent) (index : ℕ) (event : MemoryEvent)
    → IsCandidate test final → slice_get final index ≡ Some event → is_read event ≡ true → HasLocation final event
read_has_location test final index event candidate at is = record {
  at = read_here test final event event.reads event.source refl refl is
      (all_at (is_sourced test final) final index event candidate.sourced at);
}

-- Of a store-conditional that fails.
pub record IsBroken (final : List MemoryEvent) (event : MemoryEvent) : Type 0 where
  pub by : is_broken_by_other final event ≡ true
  pub older : reads_older final event (source_rank final event) ≡ true

pub broken_of : (final : List MemoryEvent) (event : MemoryEvent) → is_failing final event ≡ true
    → is_read event ≡ false → is_write event ≡ false → IsBroken final event
broken_of final event fails not_read not_write =
    let b : Bool = is_broken_by_other final event in
    let o : Bool = reads_older final event (source_rank final event) in
    let e : (b && o) ≡ true =
    sym (ap (λ r. r || is_write event || (b && o)) not_read ∙ ap (λ w. w || (b && o)) not_write) ∙ fails in
    let parts = and_parts b o e in
    record { by = parts.0; older = parts.1 }

pub broken_has_location : (final : List MemoryEvent) (event : MemoryEvent) → IsBroken final event
    → HasLocation final event
broken_has_location final event broken = record {
  at = λ index found from there.
      let is : is_others_write event found ≡ true =
      sym (ap (λ s. option_map_or (λ write. is_others_write event write)
      (option_and_then (λ i. slice_get final i) s) false) from
      ∙ ap (λ o. option_map_or (λ write. is_others_write event write) o false) there) ∙ broken.by in
      let parts = and_parts (is_write found && found.location == event.location) (not (found.hart == event.hart)) is in
      eqb-true found.location event.location (and_parts (is_write found) (found.location == event.location) parts.0).1;
}

pub behind_le : (test : LitmusTest) (rest : List Open) (events final : List MemoryEvent) (index : ℕ)
    (event found : MemoryEvent)
    → IsOf test rest events final → slice_get events index ≡ Some event → IsKept rest index event found
    → rank_behind events event ≤ rank_behind final found
behind_le test rest events final index event found of at kept =
    let same : is_write found ≡ is_write event = ap is_some kept.writes in
    let rank = rank_le rest index event found kept in
    let source = source_le test rest events final index event found of at kept in
    elim (cases_Bool (is_write event)) [
      | inl write ↦
          let one : rank_behind events event ≡ event.rank = ap (λ b. if b then event.rank else source_rank events event) write in
          let two : rank_behind final found ≡ found.rank =
          ap (λ b. if b then found.rank else source_rank final found) (same ∙ write) in
          omega (arith, one, two, rank)
      | inr not_so ↦
          let one : rank_behind events event ≡ source_rank events event =
          ap (λ b. if b then event.rank else source_rank events event) not_so in
          let two : rank_behind final found ≡ source_rank final found =
          ap (λ b. if b then found.rank else source_rank final found) (same ∙ not_so) in
          omega (arith, one, two, source)
    ]
