-- What the history holds of each actor, event by event.
use Rattle.std.proofs.Common.{◌≡◌, ◌≢◌, ◌∙◌, ◌==◌, ℕ, zero, suc, replicate, ◌+◌, ◌<◌, List, [], ◌∷◌, ◌++◌, ◌≤◌, ◌⊎◌, length, get_or, reverse, take, Option, Some, None, Bool, true, false, refl, ap, sym, subst, arith, inl, inr}
use Rattle.std.proofs.Common.{append_assoc, append-nil, length-append}
use Rattle.std.proofs.lemmas.{List.length-reverse, List.length-take-le, List.reverse-append, List.reverse-reverse}
use Rattle.std.proofs.lemmas.{Bool.Decides.nat_tests, List.get_or-set_other, List.get_or-set_same, List.length-set}
use Rattle.std.proofs.lemmas.Option.{get_or_from_slice_get, same_Some, slice_get-get_or, slice_get_cases, slice_get_within}
use Rattle.std.proofs.Math.Seq.{take-suc}
use Rattle.std.specs.Option.{option_map}
use Rattle.std.specs.Prelude.{slice_get, slice_set}
use Rattle.events.specs.Event.{actor_of}
use Rattle.events.specs.declared.event.Event.{Event}
use Rattle.smt_model.specs.Account.{event_count, last_event_of}
use Rattle.core_lock.specs.{Passes.IsTold, Tallies.AreMade, Tallies.AreBelow, Tallies.event_at}
use Rattle.core_lock.specs.declared.{tally.Made.Made, tally.Tally.Tally}
use Rattle.smt_core.proofs.Counting.{made_within}

-- ---- A walk through a history: the events so far, and those to come

-- one event on
pub walked_on : (so_far left rest all : List Event) (e : Event) → left ≡ e ∷ rest → so_far ++ left ≡ all
    → (so_far ++ e ∷ []) ++ rest ≡ all
walked_on so_far left rest all e steps whole =
    append_assoc so_far (e ∷ []) rest ∙ ap (λ xs. so_far ++ xs) (sym steps) ∙ whole

-- at its end
pub walked_all : (so_far left all : List Event) → left ≡ [] → so_far ++ left ≡ all → so_far ≡ all
walked_all so_far left all none whole = sym (append-nil so_far) ∙ ap (λ xs. so_far ++ xs) (sym none) ∙ whole

-- before an event those so far are fewer than all
pub walked_few : (so_far left rest all : List Event) (e : Event) → left ≡ e ∷ rest → so_far ++ left ≡ all
    → length so_far < length all
walked_few so_far left rest all e steps whole =
    omega (arith, ap length whole, length-append so_far left, ap length steps)

-- ---- What stands at the places

pub few : (past events : List Event) (made : List Made) (n : ℕ) → length past < n → AreMade past events made
    → AreBelow n made
few past events made n short are k m at = omega (arith, (are k m at).counts, made_within k past, short)

-- The events before a place are fewer than n.
pub short_of : (items : List Event) (place n : ℕ) → place < length items → length items < n + 1
    → length (reverse (take place items)) < n
short_of items place n inside small =
    omega (arith, length-reverse (take place items), length-take-le place items (omega (arith, inside)), inside, small)

-- The events up to a place, and the one that stands there.
one_more : (items : List Event) (place : ℕ) (e : Event) → place < length items → get_or items place e ≡ e
    → reverse (take (place + 1) items) ≡ e ∷ reverse (take place items)
one_more items place e inside is =
    let one : place + 1 ≡ suc place = omega arith in
    ap (λ n. reverse (take n items)) one
    ∙ ap reverse (take-suc items place e inside)
    ∙ ap (λ x. reverse (take place items ++ x ∷ [])) is
    ∙ reverse-append (take place items) (e ∷ [])

-- What the event at a place enters.
abbrev Enters : List Event → List Made → List Made → ℕ → Type 0
Enters items old new place = (past : List Event) (e : Event) → slice_get items place ≡ Some e → AreMade past items old
    → AreMade (e ∷ past) items new

entered_by : (items : List Event) (old new : List Made) (place : ℕ) → place < length items → Enters items old new place
    → AreMade (reverse (take place items)) items old
    → ((x : Event) × (place < length items) × (slice_get items place ≡ Some x) × (get_or items place x ≡ x))
    ⊎ ((length items ≤ place) × (slice_get items place ≡ None))
    → AreMade (reverse (take (place + 1) items)) items new
entered_by items old new place inside enters are (inl (x, within, at, is)) =
    subst (λ past. AreMade past items new) (sym (one_more items place x inside is)) (enters (reverse (take place items)) x at are)
entered_by items old new place inside enters are (inr (beyond, none)) = absurd (omega (arith, inside, beyond))

pub entered : (items : List Event) (old new : List Made) (place : ℕ) → place < length items → Enters items old new place
    → AreMade (reverse (take place items)) items old → AreMade (reverse (take (place + 1) items)) items new
entered items old new place inside enters are =
    entered_by items old new place inside enters are (slice_get_cases items place).1

-- An event of this actor, and one of another.
own_told : (past : List Event) (e : Event) (k count : ℕ) (last : Option Event) → (actor_of e == k) ≡ true
    → count ≡ event_count k past → last ≡ Some e → IsTold (e ∷ past) k (count + 1) last
own_told past e k count last own counts is = record {
  counts = rw own (omega (arith, counts));
  ends = rw own is;
}

other_told : (past : List Event) (e : Event) (k count : ℕ) (last : Option Event) → (actor_of e == k) ≡ false
    → IsTold past k count last → IsTold (e ∷ past) k count last
other_told past e k count last other told = record {
  counts = rw other told.counts;
  ends = rw other told.ends;
}

-- What stands at the places with one more event.
abbrev with_one : Made → ℕ → Made
with_one old place = record { count = old.count + 1; last = Some place }

by_actor : (past events : List Event) (made : List Made) (e : Event) (place a : ℕ) (d : Made)
    → slice_get events place ≡ Some e → a ≡ actor_of e → a < length made → AreMade past events made
    → (k : ℕ) (m : Made) → k < length made → get_or (slice_set made a (with_one (get_or made a d) place)) k d ≡ m
    → (b : Bool) → (actor_of e == k) ≡ b → IsTold (e ∷ past) k m.count (event_at events m.last)
by_actor past events made e place a d at own within are k m inside found true test =
    let same : k ≡ a = grind (arith, nat_tests, own, test) in
    let new : with_one (get_or made a d) place ≡ m =
    sym (get_or-set_same made a (with_one (get_or made a d) place) d within)
    ∙ ap (λ j. get_or (slice_set made a (with_one (get_or made a d) place)) j d) (sym same) ∙ found in
    let was : (get_or made a d).count ≡ event_count k past =
    (are a (get_or made a d) (slice_get-get_or made a d within)).counts ∙ ap (λ j. event_count j past) (sym same) in
    subst (λ n. IsTold (e ∷ past) k n.count (event_at events n.last)) new
    (own_told past e k (get_or made a d).count (slice_get events place) test was at)
by_actor past events made e place a d at own within are k m inside found false test =
    let other : k ≢ a = λ same. grind (arith, nat_tests, own, test, same) in
    let old : get_or made k d ≡ m =
    sym (get_or-set_other made a k (with_one (get_or made a d) place) d other) ∙ found in
    other_told past e k m.count (event_at events m.last) test
    (are k m (slice_get-get_or made k d inside ∙ ap Some old))

pub entered_for : (past events : List Event) (made : List Made) (e : Event) (place a : ℕ) (d : Made)
    → slice_get events place ≡ Some e → a ≡ actor_of e → a < length made → AreMade past events made
    → AreMade (e ∷ past) events (slice_set made a (with_one (get_or made a d) place))
entered_for past events made e place a d at own within are k m found =
    let new = slice_set made a (with_one (get_or made a d) place) in
    let inside : k < length made =
    omega (arith, slice_get_within new k m found, length-set made a (with_one (get_or made a d) place)) in
    by_actor past events made e place a d at own within are k m inside (get_or_from_slice_get new k m d found)
    (actor_of e == k) refl

-- An actor without a place, of which none of the places says anything.
pub left_out : (past events : List Event) (made : List Made) (e : Event) (a : ℕ) → a ≡ actor_of e → length made ≤ a
    → AreMade past events made → AreMade (e ∷ past) events made
left_out past events made e a own beyond are k m found =
    let inside = slice_get_within made k m found in
    other_told past e k m.count (event_at events m.last) (grind (arith, nat_tests, own, beyond, inside)) (are k m found)

-- The actor that was read is the event's.
pub actor_there : (o : Option Event) (a : ℕ) (e : Event) → Some a ≡ option_map actor_of o → o ≡ Some e → a ≡ actor_of e
actor_there o a e told at = same_Some a (actor_of e) (told ∙ ap (option_map actor_of) at)

-- The same of a past and its own events.
pub made_for : (past items : List Event) (made : List Made) → reverse items ≡ past → AreMade (reverse items) items made
    → AreMade past items made
made_for past items made is are = subst (λ p. AreMade p items made) is are

pub made_so : (past items : List Event) (made : List Made) → reverse items ≡ past → AreMade (reverse items) items made
    → AreMade past (reverse past) made
made_so past items made is are =
    subst (λ events. AreMade past events made) (sym (reverse-reverse items) ∙ ap reverse is) (made_for past items made is are)

made_over : (past items : List Event) (made : List Made) → reverse items ≡ past → AreMade past (reverse past) made
    → AreMade past items made
made_over past items made is are =
    subst (λ events. AreMade past events made) (ap reverse (sym is) ∙ reverse-reverse items) are

-- What is dealt to an actor, read at its place.
pub dealt_at : (past items : List Event) (made : List Made) (k j count : ℕ) (last : Option Event) → reverse items ≡ past
    → AreMade past (reverse past) made → ((p : List Event) → AreMade p items made → IsTold p j count last) → j ≡ k
    → IsTold past k count last
dealt_at past items made k j count last is are read same =
    subst (λ a. IsTold past a count last) same (read past (made_over past items made is are))

-- A pass lies at its actor's place and has counted what stands there: it was told all, and no other was.
pub lies_told : (past : List Event) (k a c : ℕ) (l : Option Event) (t : Tally) → a ≡ k → IsTold past k t.count t.last
    → (c ≡ t.count) × (l ≡ t.last) → (a ≡ k) × IsTold past a c l
lies_told past k a c l t at told same =
    (at, subst (λ j. IsTold past j c l) (sym at) (record { counts = same.0 ∙ told.counts; ends = same.1 ∙ told.ends }))

pub counted_so : (past : List Event) (k a c : ℕ) (l : Option Event) (t : Tally) → IsTold past k t.count t.last
    → (a ≡ k) × IsTold past a c l → (c ≡ t.count) × (l ≡ t.last)
counted_so past k a c l t told lies = (
  lies.1.counts ∙ ap (λ j. event_count j past) lies.0 ∙ sym told.counts,
  lies.1.ends ∙ ap (λ j. last_event_of j past) lies.0 ∙ sym told.ends,
)

-- ---- Before the first event

-- No event is any actor's, and none is its last.
abbrev pub nothing_made : Made
nothing_made = record { count = 0; last = None }

blank_at : (n k : ℕ) → get_or (replicate n nothing_made) k nothing_made ≡ nothing_made
blank_at zero k = refl
blank_at (suc n) zero = refl
blank_at (suc n) (suc k) = blank_at n k

pub none_made : (items : List Event) (n : ℕ) → AreMade [] items (replicate n nothing_made)
none_made items n k m at =
    let blank : nothing_made ≡ m =
    sym (blank_at n k) ∙ get_or_from_slice_get (replicate n nothing_made) k m nothing_made at in
    subst (λ (x : Made). IsTold [] k x.count (event_at items x.last)) blank (record { counts = refl; ends = refl })
