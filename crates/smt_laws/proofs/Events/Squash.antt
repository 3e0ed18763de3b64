-- An event that squashes all younger instructions of its hart: where everything is then.
use Rattle.std.specs.Prelude.{◌≡◌, ◌≢◌, ℕ, ◌<◌, ◌≤◌, Bool, true, false, not, ◌==◌, ◌&&◌, ◌||◌, nat_lt, nat_le, List, []}
use Rattle.std.specs.Prelude.{◌∷◌, ◌++◌, length, None}
use Rattle.std.specs.List.{filter}
use Rattle.std.proofs.Common.{◌∙◌, refl, sym, ap, subst, inl, inr, arith}
use Rattle.std.proofs.{lemmas.Bool.cases_Bool, lemmas.Bool.cases_eq, lemmas.Bool.cases_lt}
use Rattle.std.proofs.{lemmas.Bool.Decides.nat_tests, lemmas.List.append-nil}
use Rattle.events.specs.{declared.event.Event.Event, Event.seq_of}
use Rattle.smt_model.specs.{Basics.how_many, Setup.Setup, Registers.phys, Registers.mapped, Registers.committed}
use Rattle.smt_model.specs.{Rules.refused, Rules.is_legal, Picture.picture, Memory.status, Fetching.fetch_pc}
use Rattle.smt_model.specs.{Steps.IsSameHart, Steps.up_to, Steps.youngest}
use Rattle.smt_model.specs.Fates.{Fate, InDecode, InRename, Renamed, stage, fate, fetching, squashes, is, is_in_flight}
use Rattle.smt_model.specs.Fates.{is_counted, is_of, is_live}
use Rattle.smt_model.specs.Flights.{numbers, added, all_numbers, in_decode, in_rename, flight, queue, icount}
use Rattle.smt_model.specs.Flights.{added_by_any}
use Rattle.smt_model.proofs.Lists.{member, filter-same, filter-none, filter-both}
use Rattle.smt_model.proofs.Fates.Numbers.{is_of-is, numbers-of, known}
use Rattle.smt_laws.proofs.{Fates.Order.in_order, Events.Calm.fate-other, Events.Calm.told-other}
use Rattle.smt_model.proofs.{Fates.Moves.stage-squashed, Fates.Sound.moved}
use Rattle.smt_laws.proofs.Fates.Choosing.{left_on}
use Rattle.smt_laws.proofs.{Events.Freeing.true_false, Events.Mapping.mapped-is, Events.Mapping.youngest-same}

and_true : (a b : Bool) → a ≡ true → b ≡ true → (a && b) ≡ true
and_true a b one two = rw (one, two) refl

and_not_first : (a b : Bool) → a ≡ false → (a && b) ≡ false
and_not_first a b none = rw none refl

and_not_second : (a b : Bool) → b ≡ false → (a && b) ≡ false
and_not_second true b none = none
and_not_second false b none = refl

second_of : (a b : Bool) → (a && b) ≡ true → b ≡ true
second_of a b passes = grind arith

late_three : (a : ℕ) → 5 ≤ a → 3 ≤ a
late_three a late = omega arith

not_there_live : (f place : Fate) → 1 ≤ stage place → stage place ≤ 2 → is_live f ≡ false → is f place ≡ false
not_there_live f place one two dead = grind (arith, nat_tests)

not_there_late : (f place : Fate) → stage place ≤ 2 → 3 ≤ stage f → is f place ≡ false
not_there_late f place two late = grind (arith, nat_tests)

flight-above : (f : Fate) (s n : ℕ) (own was : Bool) → n < s → is_live f ≡ false
    → is_in_flight f ≡ ((nat_lt s n || (own && (s == n))) && was)
flight-above f s n own was above dead = grind (arith, nat_tests)

flight-here : (s n : ℕ) (own now was : Bool) → s ≡ n → now ≡ own → was ≡ true
    → now ≡ ((nat_lt s n || (own && (s == n))) && was)
flight-here s n own now was here at flew = grind (arith, nat_tests)

flight-below : (s n : ℕ) (own was : Bool) → s < n → was ≡ ((nat_lt s n || (own && (s == n))) && was)
flight-below s n own was under = grind (arith, nat_tests)

upto_is : (s n : ℕ) → (nat_lt s n || (true && (s == n))) ≡ nat_le s n
upto_is s n = grind (arith, nat_tests)

counted-above : (f : Fate) (waits : Bool) (s n : ℕ) (was : Bool) → n < s → is_live f ≡ false
    → is_counted f ≡ (waits && (nat_le s n && was))
counted-above f waits s n was above dead = grind (arith, nat_tests)

counted-here : (f : Fate) (waits rest : Bool) → 5 ≤ stage f → waits ≡ false → is_counted f ≡ (waits && rest)
counted-here f waits rest late none = grind (arith, nat_tests)

counted-below : (f : Fate) (waits : Bool) (s n : ℕ) → 3 ≤ stage f → waits ≡ is f Renamed → s < n
    → is_counted f ≡ (waits && (nat_le s n && is_in_flight f))
counted-below f waits s n late at under = grind (arith, nat_tests)

queue-gone : (f : Fate) (above mine was : Bool) → (above && mine) ≡ true → is_live f ≡ false
    → is f Renamed ≡ (not (mine && above) && was)
queue-gone f above mine was squash_it dead = grind (arith, nat_tests)

queue-own : (f : Fate) (squash_it was : Bool) → 5 ≤ stage f → was ≡ false → is f Renamed ≡ (not squash_it && was)
queue-own f squash_it was late none = grind (arith, nat_tests)

queue-kept : (above mine was : Bool) → (above && mine) ≡ false → was ≡ (not (mine && above) && was)
queue-kept above mine was spared = grind (arith, nat_tests)

-- Event e, of an instruction of hart h in flight, squashes all younger ones of h, and of the others none; it adds no
-- instruction and no register. Whether it squashes its own isn't said: a refetch does.
pub record IsSquashing (past : List Event) (e : Event) (h : ℕ) : Type 0 where
  pub of_hart : is_of past h (seq_of e) ≡ true
  pub flew : is_in_flight (fate past (seq_of e)) ≡ true
  pub late : 5 ≤ stage (fate (e ∷ past) (seq_of e))
  pub squashes_it : (s : ℕ) → seq_of e ≢ s → squashes e past s ≡ (nat_lt (seq_of e) s && is_of past h s)
  pub adds_none : (g : ℕ) → added e g ≡ []
  pub adds_no_number : added_by_any e ≡ []

-- ---- One instruction

-- A younger one of the hart is gone,
pub squash_young : (setup : Setup) (past : List Event) → is_legal setup past → (e : Event) → refused setup past e ≡ None
    → (h : ℕ) → IsSquashing past e h
    → (s : ℕ) → is_of past h s ≡ true → seq_of e < s → is_live (fate (e ∷ past) s) ≡ false
squash_young setup past legal e ok h squashing s of_s above =
    let other : seq_of e ≢ s = λ same. absurd (omega arith) in
    let squash_it : squashes e past s ≡ true =
    squashing.squashes_it s other ∙ and_true (nat_lt (seq_of e) s) (is_of past h s) (grind (arith, nat_tests)) of_s in
    let tells = told-other e s other in
    elim (cases_Bool (is_live (fate past s))) [
      | inl lived ↦
          let gone = stage-squashed e past s tells squash_it (grind (arith, nat_tests)) (grind (arith, nat_tests)) in
          grind (arith, nat_tests)
      | inr dead ↦ left_on (stage (fate past s)) (stage (fate (e ∷ past) s)) (moved setup past legal e ok s)
          (known setup past legal h s of_s) dead
    ]

-- and any other is as it was.
pub squash_other : (past : List Event) (e : Event) (h : ℕ) → IsSquashing past e h → (s : ℕ) → seq_of e ≢ s
    → (nat_lt (seq_of e) s && is_of past h s) ≡ false → fate (e ∷ past) s ≡ fate past s
squash_other past e h squashing s other apart = fate-other e past s other (squashing.squashes_it s other ∙ apart)

pub squash_older : (past : List Event) (e : Event) (h : ℕ) → IsSquashing past e h → (s : ℕ) → s < seq_of e
    → fate (e ∷ past) s ≡ fate past s
squash_older past e h squashing s under =
    squash_other past e h squashing s (λ same. absurd (omega arith))
    (and_not_first (nat_lt (seq_of e) s) (is_of past h s) (grind (arith, nat_tests)))

pub squash_elsewhere : (past : List Event) (e : Event) (h g : ℕ) → IsSquashing past e h → g ≢ h → (s : ℕ)
    → is_of past g s ≡ true
    → fate (e ∷ past) s ≡ fate past s
squash_elsewhere past e h g squashing other s of_s =
    let apart : is_of past h s ≡ false =
    is_of-is past g h s of_s ∙ (let away : (g == h) ≡ false = grind (arith, nat_tests) in away) in
    let not_own : seq_of e ≢ s =
    (λ same. absurd (true_false (sym squashing.of_hart ∙ subst (λ z. is_of past h z ≡ false) (sym same) apart))) in
    squash_other past e h squashing s not_own (and_not_second (nat_lt (seq_of e) s) (is_of past h s) apart)

-- An older one of the hart has been renamed.
pub older_renamed : (setup : Setup) (past : List Event) → is_legal setup past → (e : Event) (h : ℕ)
    → IsSquashing past e h → (s : ℕ)
    → is_of past h s ≡ true → s < seq_of e → 3 ≤ stage (fate past s)
older_renamed setup past legal e h squashing s of_s under =
    let flew = squashing.flew in
    let order = in_order setup past legal h s (seq_of e) of_s squashing.of_hart under (grind (arith, nat_tests)) in
    grind (arith, nat_tests)

-- ---- The hart's places

list-squash : (past : List Event) (e : Event) (h g : ℕ) → IsSquashing past e h → (test : ℕ → Bool)
    → filter test (numbers (e ∷ past) g) ≡ filter test (numbers past g)
list-squash past e h g squashing test =
    ap (λ xs. filter test (numbers past g ++ xs)) (squashing.adds_none g)
    ∙ ap (filter test) (append-nil (numbers past g))

-- Both latches are empty.
empty-squash : (setup : Setup) (past : List Event) → is_legal setup past → (e : Event) → refused setup past e ≡ None
    → (h : ℕ) → IsSquashing past e h
    → (place : Fate) → 1 ≤ stage place → stage place ≤ 2
    → filter (λ s. is (fate (e ∷ past) s) place) (numbers (e ∷ past) h) ≡ []
empty-squash setup past legal e ok h squashing place one two =
    list-squash past e h h squashing (λ s. is (fate (e ∷ past) s) place)
    ∙ filter-none (λ s. is (fate (e ∷ past) s) place) (numbers past h) (λ s m.
    let of_s = numbers-of setup past legal h s m in
    elim (cases_lt (seq_of e) s) [
      | inl above ↦ not_there_live (fate (e ∷ past) s) place one two
          (squash_young setup past legal e ok h squashing s of_s above)
      | inr upto ↦
          elim (cases_eq s (seq_of e)) [
            | inl here ↦ not_there_late (fate (e ∷ past) s) place two
                (subst (λ z. 3 ≤ stage (fate (e ∷ past) z)) (sym here)
                (late_three (stage (fate (e ∷ past) (seq_of e))) squashing.late))
            | inr other ↦
                let same = squash_older past e h squashing s (omega arith) in
                not_there_late (fate (e ∷ past) s) place two
                (rw same (older_renamed setup past legal e h squashing s of_s (omega arith)))
          ]
    ])

pub in_decode-squash : (setup : Setup) (past : List Event) → is_legal setup past → (e : Event)
    → refused setup past e ≡ None → (h : ℕ) → IsSquashing past e h
    → in_decode (e ∷ past) h ≡ []
in_decode-squash setup past legal e ok h squashing =
    empty-squash setup past legal e ok h squashing InDecode (omega arith) (omega arith)

pub in_rename-squash : (setup : Setup) (past : List Event) → is_legal setup past → (e : Event)
    → refused setup past e ≡ None → (h : ℕ) → IsSquashing past e h
    → in_rename (e ∷ past) h ≡ []
in_rename-squash setup past legal e ok h squashing =
    empty-squash setup past legal e ok h squashing InRename (omega arith) (omega arith)

-- The flight keeps those up to the instruction, and it where it is in flight still.
flight-test : (setup : Setup) (past : List Event) → is_legal setup past → (e : Event) → refused setup past e ≡ None
    → (h : ℕ) → IsSquashing past e h
    → (own : Bool) → is_in_flight (fate (e ∷ past) (seq_of e)) ≡ own → (s : ℕ) → member s (numbers past h) ≡ true
    → is_in_flight (fate (e ∷ past) s)
    ≡ ((nat_lt s (seq_of e) || (own && (s == seq_of e))) && is_in_flight (fate past s))
flight-test setup past legal e ok h squashing own at s m =
    let of_s = numbers-of setup past legal h s m in
    elim (cases_lt (seq_of e) s) [
      | inl above ↦
          let dead = squash_young setup past legal e ok h squashing s of_s above in
          flight-above (fate (e ∷ past) s) s (seq_of e) own (is_in_flight (fate past s)) above dead
      | inr upto ↦
          elim (cases_eq s (seq_of e)) [
            | inl here ↦
                flight-here s (seq_of e) own (is_in_flight (fate (e ∷ past) s)) (is_in_flight (fate past s)) here
                (subst (λ z. is_in_flight (fate (e ∷ past) z) ≡ own) (sym here) at)
                (subst (λ z. is_in_flight (fate past z) ≡ true) (sym here) squashing.flew)
            | inr other ↦
                let same = squash_older past e h squashing s (omega arith) in
                ap is_in_flight same ∙ flight-below s (seq_of e) own (is_in_flight (fate past s)) (omega arith)
          ]
    ]

pub flight-squash : (setup : Setup) (past : List Event) → is_legal setup past → (e : Event)
    → refused setup past e ≡ None → (h : ℕ) → IsSquashing past e h
    → is_in_flight (fate (e ∷ past) (seq_of e)) ≡ true → flight (e ∷ past) h ≡ up_to (seq_of e) (flight past h)
flight-squash setup past legal e ok h squashing still =
    list-squash past e h h squashing (λ s. is_in_flight (fate (e ∷ past) s))
    ∙ (filter-same (λ s. is_in_flight (fate (e ∷ past) s)) (λ s. nat_le s (seq_of e) && is_in_flight (fate past s))
    (numbers past h)
    (λ s m. flight-test setup past legal e ok h squashing true still s m
    ∙ ap (λ b. b && is_in_flight (fate past s)) (upto_is s (seq_of e)))
    ∙ sym (filter-both (λ s. nat_le s (seq_of e)) (λ s. is_in_flight (fate past s)) (numbers past h)))

-- Of them those that wait are counted.
pub icount-squash : (setup : Setup) (past : List Event) → is_legal setup past → (e : Event)
    → refused setup past e ≡ None → (h : ℕ) → IsSquashing past e h
    → (waits : ℕ → Bool) → ((s : ℕ) → s < seq_of e → waits s ≡ is (fate past s) Renamed) → waits (seq_of e) ≡ false
    → icount (e ∷ past) h ≡ how_many waits (up_to (seq_of e) (flight past h))
icount-squash setup past legal e ok h squashing waits older own =
    ap length (list-squash past e h h squashing (λ s. is_counted (fate (e ∷ past) s))
    ∙ (filter-same (λ s. is_counted (fate (e ∷ past) s))
    (λ s. waits s && (nat_le s (seq_of e) && is_in_flight (fate past s))) (numbers past h) (λ s m.
    let of_s = numbers-of setup past legal h s m in
    elim (cases_lt (seq_of e) s) [
      | inl above ↦
          let dead = squash_young setup past legal e ok h squashing s of_s above in
          counted-above (fate (e ∷ past) s) (waits s) s (seq_of e) (is_in_flight (fate past s)) above dead
      | inr upto ↦
          elim (cases_eq s (seq_of e)) [
            | inl here ↦
                counted-here (fate (e ∷ past) s) (waits s) (nat_le s (seq_of e) && is_in_flight (fate past s))
                (subst (λ z. 5 ≤ stage (fate (e ∷ past) z)) (sym here) squashing.late)
                (subst (λ z. waits z ≡ false) (sym here) own)
            | inr other ↦
                let same = squash_older past e h squashing s (omega arith) in
                let late = older_renamed setup past legal e h squashing s of_s (omega arith) in
                ap is_counted same ∙ counted-below (fate past s) (waits s) s (seq_of e) late (older s (omega arith))
                (omega arith)
          ]
    ])
    ∙ (sym (filter-both waits (λ s. nat_le s (seq_of e) && is_in_flight (fate past s)) (numbers past h))
    ∙ ap (filter waits)
    (sym (filter-both (λ s. nat_le s (seq_of e)) (λ s. is_in_flight (fate past s)) (numbers past h))))))

-- ---- The queue

pub queue-squash : (setup : Setup) (past : List Event) → is_legal setup past → (e : Event) → refused setup past e ≡ None
    → (h : ℕ) → IsSquashing past e h
    → is (fate past (seq_of e)) Renamed ≡ false
    → queue (e ∷ past) ≡ filter (λ s. not (is_of past h s && nat_lt (seq_of e) s)) (queue past)
queue-squash setup past legal e ok h squashing not_waiting =
    ap (λ xs. filter (λ s. is (fate (e ∷ past) s) Renamed) (all_numbers past ++ xs)) squashing.adds_no_number
    ∙ (ap (filter (λ s. is (fate (e ∷ past) s) Renamed)) (append-nil (all_numbers past))
    ∙ (filter-same (λ s. is (fate (e ∷ past) s) Renamed)
    (λ s. not (is_of past h s && nat_lt (seq_of e) s) && is (fate past s) Renamed) (all_numbers past) (λ s m.
    elim (cases_Bool (nat_lt (seq_of e) s && is_of past h s)) [
      | inl squash_it ↦
          let dead = squash_young setup past legal e ok h squashing s
          (second_of (nat_lt (seq_of e) s) (is_of past h s) squash_it) (grind (arith, nat_tests)) in
          queue-gone (fate (e ∷ past) s) (nat_lt (seq_of e) s) (is_of past h s)
          (is (fate past s) Renamed) squash_it dead
      | inr spared ↦
          elim (cases_eq (seq_of e) s) [
            | inl here ↦
                let late = squashing.late in
                queue-own (fate (e ∷ past) s) (is_of past h s && nat_lt (seq_of e) s) (is (fate past s) Renamed)
                (subst (λ z. 5 ≤ stage (fate (e ∷ past) z)) here late)
                (subst (λ z. is (fate past z) Renamed ≡ false) here not_waiting)
            | inr other ↦
                ap (λ f. is f Renamed) (squash_other past e h squashing s other spared)
                ∙ queue-kept (nat_lt (seq_of e) s) (is_of past h s) (is (fate past s) Renamed) spared
          ]
    ])
    ∙ sym (filter-both (λ s. not (is_of past h s && nat_lt (seq_of e) s)) (λ s. is (fate past s) Renamed)
    (all_numbers past))))

-- ---- Other harts

place-apart : (setup : Setup) (past : List Event) → is_legal setup past → (e : Event) (h g : ℕ) → IsSquashing past e h
    → g ≢ h → (test : Fate → Bool)
    → filter (λ s. test (fate (e ∷ past) s)) (numbers (e ∷ past) g) ≡ filter (λ s. test (fate past s)) (numbers past g)
place-apart setup past legal e h g squashing other test =
    list-squash past e h g squashing (λ s. test (fate (e ∷ past) s))
    ∙ filter-same (λ s. test (fate (e ∷ past) s)) (λ s. test (fate past s)) (numbers past g)
    (λ s m. ap test (squash_elsewhere past e h g squashing other s (numbers-of setup past legal g s m)))

-- The map, from the flight and the committed map.
pub mapped-squash : (setup : Setup) (past : List Event) → is_legal setup past → (e : Event)
    → (ok : refused setup past e ≡ None) → (g r : ℕ) → 1 ≤ r
    → (xs : List ℕ) → flight (e ∷ past) g ≡ xs → committed (e ∷ past) g r ≡ committed past g r
    → mapped (e ∷ past) g r ≡ youngest (picture setup (e ∷ past)) r xs (committed past g r)
mapped-squash setup past legal e ok g r low xs flies commits =
    mapped-is setup (e ∷ past) (ok, legal) g r low
    ∙ (ap (λ ys. youngest (picture setup (e ∷ past)) r ys (committed (e ∷ past) g r)) flies
    ∙ ap (youngest (picture setup (e ∷ past)) r xs) commits)

pub apart : (setup : Setup) (past : List Event) → is_legal setup past → (e : Event)
    → (ok : refused setup past e ≡ None) → (h g : ℕ)
    → IsSquashing past e h → g ≢ h → ((s : ℕ) → fetching (e ∷ past) s ≡ fetching past s)
    → ((s : ℕ) → phys (e ∷ past) s ≡ phys past s)
    → ((r : ℕ) → committed (e ∷ past) g r ≡ committed past g r) → fetch_pc setup (e ∷ past) g ≡ fetch_pc setup past g
    → status (e ∷ past) g ≡ status past g → IsSameHart (picture setup past) (picture setup (e ∷ past)) g
apart setup past legal e ok h g squashing other fetched named commits pc stands_so =
    let flies = place-apart setup past legal e h g squashing other is_in_flight in
    record {
      in_decode = place-apart setup past legal e h g squashing other (λ f. is f InDecode);
      in_rename = place-apart setup past legal e h g squashing other (λ f. is f InRename);
      flight = flies;
      icount = ap length (place-apart setup past legal e h g squashing other is_counted);
      mapped = λ r low high.
          mapped-squash setup past legal e ok g r low (flight past g) flies (commits r)
          ∙ (youngest-same (picture setup (e ∷ past)) (picture setup past) r (flight past g) (committed past g r)
          (λ s m. fetched s) (λ s m. named s)
          ∙ sym (mapped-is setup past legal g r low));
      committed = λ r low high. commits r;
      fetch_pc = pc;
      status = stands_so;
    }
