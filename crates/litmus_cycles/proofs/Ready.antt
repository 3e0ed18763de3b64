-- What is open of events of which nothing is decided is in such an order that each refusal is right.
use Rattle.std.proofs.Common.{◌≡◌, ℕ, zero, suc, ◌+◌, ◌-◌, ◌^◌, ◌<◌, ◌≤◌, max, ◌==◌, ◌&&◌, ◌||◌, Bool, true, false, inl, inr, if◌then◌else◌}
use Rattle.std.proofs.Common.{List, [], ◌∷◌, ◌++◌, length, slice_get, Some, IfSome, sym, ◌∙◌, arith, subst, ap, refl, true≢false}
use Rattle.std.proofs.Math.Nat.{le-max_left, le-max_right, max-le}
use Rattle.std.proofs.lemmas.List.{append_assoc}
use Rattle.std.proofs.lemmas.Bool.{and_parts, or_from, cases_Bool, eqb-true, eq-eqb, ne_eqb}
use Rattle.litmus_runs.specs.declared.{access.Access.Access, runs.HartRuns.HartRuns}
use Rattle.litmus_cycles.specs.declared.{event.MemoryEvent.MemoryEvent, open.Open.Open}
use Rattle.litmus_cycles.specs.declared.open.Open.TheVariants.{Place, Source}
use Rattle.litmus_cycles.specs.Choices.{after, writes_at, places, has_source, sources, open_at, all_open, undecided_all, accesses_of, events_of}
use Rattle.litmus_cycles.specs.Kept.{place_of, last_place, is_source_of, is_open, IsGiven, AreNext, IsReady, AreAllUnsourced}

max_zero : (a b : ℕ) → a ≡ 0 → b ≡ 0 → max a b ≡ 0
max_zero a b p q = omega (arith, p, q)

zero_append : (xs ys : List Open) (l : ℕ) → last_place xs l ≡ 0 → last_place ys l ≡ 0 → last_place (xs ++ ys) l ≡ 0
zero_append [] ys l p q = q
zero_append (what ∷ xs) ys l p q =
    let left = le-max_left (place_of what l) (last_place xs l) in
    let right = le-max_right (place_of what l) (last_place xs l) in
    max_zero (place_of what l) (last_place (xs ++ ys) l) (omega (arith, p, left))
    (zero_append xs ys l (omega (arith, p, right)) q)

closed_append : (xs ys : List Open) (i : ℕ) → is_open xs i ≡ false → is_open ys i ≡ false → is_open (xs ++ ys) i ≡ false
closed_append [] ys i p q = q
closed_append (what ∷ xs) ys i p q = elim (cases_Bool (is_source_of what i)) [
  | inl is ↦ absurd (true≢false (sym (ap (λ b. b || is_open xs i) is) ∙ p))
  | inr not_so ↦
      or_from (is_source_of what i) (is_open (xs ++ ys) i) not_so
      (closed_append xs ys i (sym (ap (λ b. b || is_open xs i) not_so) ∙ p) q)
]

-- The places of a location.
places_below : (location count : ℕ) (ys : List Open) → last_place ys location ≡ 0
    → last_place (places location count ++ ys) location ≤ count
places_below location zero ys none = omega (arith, none)
places_below location (suc count) ys none =
    let below = places_below location count ys none in
    let mine : place_of (Place location (suc count)) location ≡ suc count =
    ap (λ b. if b then suc count else 0) (eq-eqb location location refl) in
    max-le (omega (arith, mine)) (omega (arith, below))

places_elsewhere : (location count l : ℕ) → (location ≡ l → ⊥) → last_place (places location count) l ≡ 0
places_elsewhere location zero l apart = refl
places_elsewhere location (suc count) l apart =
    max_zero (place_of (Place location (suc count)) l) (last_place (places location count) l)
    (ap (λ b. if b then suc count else 0) (ne_eqb location l apart)) (places_elsewhere location count l apart)

places_closed : (location count i : ℕ) → is_open (places location count) i ≡ false
places_closed location zero i = refl
places_closed location (suc count) i = places_closed location count i

places_next : (events : List MemoryEvent) (location count : ℕ) (ys : List Open) → last_place ys location ≡ 0
    → AreNext ys events → AreNext (places location count ++ ys) events
places_next events location zero ys none are = are
places_next events location (suc count) ys none are =
    let below = places_below location count ys none in
    (omega (arith, below), places_next events location count ys none are)

-- The sources of a location.
one_zero : (b : Bool) (k l : ℕ) → last_place (if b then Source k ∷ [] else []) l ≡ 0
one_zero true k l = max_zero 0 0 refl refl
one_zero false k l = refl

sources_zero : (location k l : ℕ) (es : List MemoryEvent) → last_place (sources location k es) l ≡ 0
sources_zero location k l [] = refl
sources_zero location k l (e ∷ es) =
    zero_append (if e.location == location && has_source e then Source k ∷ [] else []) (sources location (after k) es) l
    (one_zero (e.location == location && has_source e) k l) (sources_zero location (after k) l es)

one_closed : (b : Bool) (k i : ℕ) → (b ≡ true → k ≡ i → ⊥) → is_open (if b then Source k ∷ [] else []) i ≡ false
one_closed true k i apart = or_from (k == i) false (ne_eqb k i (apart refl)) refl
one_closed false k i apart = refl

after_is : (k : ℕ) → k + 1 ≤ 2 ^ 64 - 1 → after k ≡ k + 1
after_is k few = omega (arith, few)

sources_closed : (location k i : ℕ) (es : List MemoryEvent) → k + length es ≤ 2 ^ 64 - 1
    → ((j : ℕ) (e : MemoryEvent) → slice_get es j ≡ Some e → k + j ≡ i → e.location ≡ location → ⊥)
    → is_open (sources location k es) i ≡ false
sources_closed location k i [] few none = refl
sources_closed location k i (e ∷ es) few none =
    let next : after k ≡ k + 1 = after_is k (omega (arith, few)) in
    closed_append (if e.location == location && has_source e then Source k ∷ [] else []) (sources location (after k) es) i
    (one_closed (e.location == location && has_source e) k i
    (λ is same. none zero e refl (omega (arith, same))
    (eqb-true e.location location (and_parts (e.location == location) (has_source e) is).0)))
    (sources_closed location (after k) i es (omega (arith, few, next))
    (λ j f at same here. none (suc j) f at (omega (arith, same, next)) here))

by_test : (events : List MemoryEvent) (b : Bool) (k : ℕ) (xs ys : List Open) → (b ≡ true → IsGiven (xs ++ ys) k events)
    → AreNext (xs ++ ys) events → AreNext (((if b then Source k ∷ [] else []) ++ xs) ++ ys) events
by_test events true k xs ys given are = (given refl, are)
by_test events false k xs ys given are = are

record IsBeyond (events : List MemoryEvent) (location : ℕ) (rest : List Open) : Type 0 where
  pub none : last_place rest location ≡ 0
  pub closed : (i : ℕ) (e : MemoryEvent) → slice_get events i ≡ Some e → e.location ≡ location → is_open rest i ≡ false
  pub next : AreNext rest events

sources_next : (events : List MemoryEvent) (location k : ℕ) (es : List MemoryEvent) (rest : List Open)
    → k + length es ≤ 2 ^ 64 - 1
    → ((j : ℕ) (e : MemoryEvent) → slice_get es j ≡ Some e → slice_get events (k + j) ≡ Some e)
    → IsBeyond events location rest → AreNext (sources location k es ++ rest) events
sources_next events location k [] rest few at beyond = beyond.next
sources_next events location k (e ∷ es) rest few at beyond =
    let next : after k ≡ k + 1 = after_is k (omega (arith, few)) in
    let here : slice_get events k ≡ Some e =
    ap (slice_get events) (omega arith) ∙ at zero e refl in
    by_test events (e.location == location && has_source e) k (sources location (after k) es) rest
    (λ is.
    let same : e.location ≡ location =
    eqb-true e.location location (and_parts (e.location == location) (has_source e) is).0 in
    record {
      sourced = closed_append (sources location (after k) es) rest k
          (sources_closed location (after k) k es (omega (arith, few, next)) (λ j f there equal l. omega (arith, equal, next)))
          (beyond.closed k e here same);
      placed = subst (λ o. IfSome o (λ f. last_place (sources location (after k) es ++ rest) f.location ≡ 0)) (sym here)
          (subst (λ l. last_place (sources location (after k) es ++ rest) l ≡ 0) (sym same)
          (zero_append (sources location (after k) es) rest location (sources_zero location (after k) location es) beyond.none));
    })
    (sources_next events location (after k) es rest (omega (arith, few, next))
    (λ j f there. ap (slice_get events) (omega (arith, next)) ∙ at (suc j) f there) beyond)

-- What is open of the locations from one on is nothing of those before it.
all_zero : (events : List MemoryEvent) (location left l : ℕ) → l < location → location + left ≤ 2 ^ 64 - 1
    → last_place (all_open events location left) l ≡ 0
all_zero events location zero l less few = refl
all_zero events location (suc left) l less few =
    let next : after location ≡ location + 1 = after_is location (omega (arith, few)) in
    zero_append (open_at events location) (all_open events (after location) left) l
    (zero_append (places location (writes_at location events)) (sources location 0 events) l
    (places_elsewhere location (writes_at location events) l (λ e. omega (arith, e, less)))
    (sources_zero location 0 l events))
    (all_zero events (after location) left l (omega (arith, less, next)) (omega (arith, few, next)))

all_closed : (events : List MemoryEvent) (location left i : ℕ) (e : MemoryEvent) → slice_get events i ≡ Some e
    → e.location < location → location + left ≤ 2 ^ 64 - 1 → length events ≤ 2 ^ 64 - 1
    → is_open (all_open events location left) i ≡ false
all_closed events location zero i e at less few short = refl
all_closed events location (suc left) i e at less few short =
    let next : after location ≡ location + 1 = after_is location (omega (arith, few)) in
    closed_append (open_at events location) (all_open events (after location) left) i
    (closed_append (places location (writes_at location events)) (sources location 0 events) i
    (places_closed location (writes_at location events) i)
    (sources_closed location 0 i events (omega (arith, short))
    (λ j f there same here.
    let index : j ≡ i = omega (arith, same) in
    let one : Some f ≡ Some e = sym there ∙ ap (slice_get events) index ∙ at in
    let two : f ≡ e = cc in
    let three : f.location ≡ e.location = ap (λ x. x.location) two in
    omega (arith, three, here, less))))
    (all_closed events (after location) left i e at (omega (arith, less, next)) (omega (arith, few, next)) short)

all_next : (events : List MemoryEvent) (location left : ℕ) → location + left ≤ 2 ^ 64 - 1 → length events ≤ 2 ^ 64 - 1
    → AreNext (all_open events location left) events
all_next events location zero few short = tt
all_next events location (suc left) few short =
    let next : after location ≡ location + 1 = after_is location (omega (arith, few)) in
    let rest : List Open = all_open events (after location) left in
    let fewer : after location + left ≤ 2 ^ 64 - 1 = omega (arith, few, next) in
    let beyond : IsBeyond events location rest = record {
      none = all_zero events (after location) left location (omega (arith, next)) fewer;
      closed = λ i e at here.
          all_closed events (after location) left i e at (omega (arith, next, here)) fewer short;
      next = all_next events (after location) left fewer short;
    } in
    subst (λ xs. AreNext xs events)
    (sym (append_assoc (places location (writes_at location events)) (sources location 0 events) rest))
    (places_next events location (writes_at location events) (sources location 0 events ++ rest)
    (zero_append (sources location 0 events) rest location (sources_zero location 0 location events) beyond.none)
    (sources_next events location 0 events rest (omega (arith, short))
    (λ j e at. ap (slice_get events) (omega arith) ∙ at) beyond))

pub ready_all : (events : List MemoryEvent) (left : List Open) (locations : ℕ) → locations ≤ 2 ^ 64 - 1
    → length events ≤ 2 ^ 64 - 1 → AreAllUnsourced events → left ≡ all_open events 0 locations → IsReady left events
ready_all events left locations few short none is =
    subst (λ xs. IsReady xs events) (sym is) (record {
      next = all_next events 0 locations (omega (arith, few)) short;
      unsourced = λ index opened. none index;
    })

-- The events of ways have no sources yet.
none_sourced : (hart first place : ℕ) (accesses : List Access) → AreAllUnsourced (undecided_all hart first place accesses)
none_sourced hart first place [] index = tt
none_sourced hart first place (access ∷ accesses) zero = refl
none_sourced hart first place (access ∷ accesses) (suc index) = none_sourced hart first (after place) accesses index

both_unsourced : (xs ys : List MemoryEvent) → AreAllUnsourced xs → AreAllUnsourced ys → AreAllUnsourced (xs ++ ys)
both_unsourced [] ys one other index = other index
both_unsourced (x ∷ xs) ys one other zero = one zero
both_unsourced (x ∷ xs) ys one other (suc index) = both_unsourced xs ys (λ i. one (suc i)) other index

ways_unsourced : (harts : List HartRuns) (hart first : ℕ) (chosen : List ℕ)
    → AreAllUnsourced (events_of harts hart first chosen)
ways_unsourced harts hart first [] index = tt
ways_unsourced harts hart first (way ∷ chosen) index =
    both_unsourced (undecided_all hart first 0 (accesses_of harts hart way))
    (events_of harts (after hart) (first + length (accesses_of harts hart way)) chosen)
    (none_sourced hart first 0 (accesses_of harts hart way))
    (ways_unsourced harts (after hart) (first + length (accesses_of harts hart way)) chosen) index

pub made_unsourced : (harts : List HartRuns) (start events : List MemoryEvent) (chosen : List ℕ) → start ≡ []
    → events ≡ start ++ events_of harts 0 (length start) chosen → AreAllUnsourced events
made_unsourced harts start events chosen none made =
    subst AreAllUnsourced (sym (made ∙ ap (λ xs. xs ++ events_of harts 0 (length xs) chosen) none))
    (ways_unsourced harts 0 0 chosen)
