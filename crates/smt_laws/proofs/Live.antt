-- What a hart has on its way after each event: the list of its live instructions.
use Rattle.std.specs.Prelude.{◌≡◌, ◌≢◌, ℕ, ◌<◌, ◌≤◌, Bool, true, false, ◌==◌, ◌&&◌, nat_lt, nat_le, List, [], ◌∷◌, ◌++◌}
use Rattle.std.specs.Prelude.{Option, Some, None}
use Rattle.std.specs.List.{filter}
use Rattle.std.proofs.Common.{◌∙◌, refl, sym, ap, subst, inl, inr, arith}
use Rattle.std.proofs.{lemmas.Bool.cases_eq, lemmas.Bool.cases_lt, lemmas.Bool.Decides.nat_tests}
use Rattle.std.proofs.{lemmas.List.append-nil}
use Rattle.events.specs.{declared.effect.Outcome.Outcome, declared.effect.Effect.Effect, declared.event.Event.Event}
use Rattle.events.specs.{Event.seq_of}
use Rattle.events.specs.declared.event.Event.TheVariants.{Decode, Rename, Issue, Complete, Drop, Retire, Refetch}
use Rattle.smt_model.specs.{Basics.first, Setup.Setup, Nexts.is_last, Flights.numbers, Flights.added, Flights.live}
use Rattle.smt_model.specs.{Flights.flight, Rules.refused, Rules.is_legal}
use Rattle.smt_model.specs.Fates.{Fate, stage, fate, is_live, is_in_flight, is_of, squashes, mispredicts}
use Rattle.smt_model.specs.Fates.{squashes_at_retirement, same_hart}
use Rattle.smt_model.proofs.Lists.{member, filter-same, filter-none, filter-both, filter-loses-first}
use Rattle.smt_model.proofs.Fates.Moves.{decode_was, rename_was, issue_was}
use Rattle.smt_model.proofs.{Allowed.retire_allowed}
use Rattle.smt_laws.proofs.{Fates.Order.in_order, Events.Calm.IsCalm, Events.Calm.fate-other}
use Rattle.smt_laws.proofs.{Events.Harts.place-kept, Events.Freeing.true_false, Steps.RetireCommits.was-Retire}
use Rattle.smt_laws.proofs.Events.Squash.{IsSquashing, squash_young, squash_older}
use Rattle.smt_laws.proofs.{Steps.Complete.own-Complete, Steps.Complete.calm-Complete, Steps.Retire.now-Retire}
use Rattle.smt_laws.proofs.{Steps.Retire.calm-Retire, Events.Emptying.squashing-Retire}
use Rattle.smt_laws.proofs.Events.Emptying.{IsEmptying, emptying-Retire, emptying-Refetch, none_before}
use Rattle.smt_model.proofs.Fates.Numbers.{is_of-is, same_hart-at, first_of_hart, numbers-of, numbers-member}
use Rattle.smt_model.proofs.Fates.Numbers.{numbers-rise}
use Rattle.smt_laws.proofs.Paths.{least_first}

-- ---- Events that squash nothing, and leave their instruction live, or not

pub live-Decode : (setup : Setup) (past : List Event) (actor n : ℕ)
    → refused setup past (Decode actor n) ≡ None → (h : ℕ)
    → live (Decode actor n ∷ past) h ≡ live past h
live-Decode setup past actor n ok h =
    let was = decode_was setup past actor n ok in
    place-kept (Decode actor n) past (λ s. refl) is_live h refl (grind (arith, nat_tests))

pub live-Rename : (setup : Setup) (past : List Event) (actor n : ℕ) (register : Option ℕ)
    → refused setup past (Rename actor n register) ≡ None
    → (h : ℕ) → live (Rename actor n register ∷ past) h ≡ live past h
live-Rename setup past actor n register ok h =
    let was = rename_was setup past actor n register ok in
    place-kept (Rename actor n register) past (λ s. refl) is_live h refl (grind (arith, nat_tests))

pub live-Issue : (setup : Setup) (past : List Event) (actor n : ℕ) → refused setup past (Issue actor n) ≡ None → (h : ℕ)
    → live (Issue actor n ∷ past) h ≡ live past h
live-Issue setup past actor n ok h =
    let was = issue_was setup past actor n ok in
    place-kept (Issue actor n) past (λ s. refl) is_live h refl (grind (arith, nat_tests))

pub live-Drop : (past : List Event) (actor n h : ℕ) → live (Drop actor n ∷ past) h ≡ live past h
live-Drop past actor n h = place-kept (Drop actor n) past (λ s. refl) is_live h refl refl

pub live-Complete : (setup : Setup) (past : List Event) → is_legal setup past → (actor n : ℕ) (o : Outcome)
    → refused setup past (Complete actor n o) ≡ None → mispredicts past n o.next ≡ false → (h : ℕ)
    → live (Complete actor n o ∷ past) h ≡ live past h
live-Complete setup past legal actor n o ok straight h =
    place-kept (Complete actor n o) past (calm-Complete past actor n o straight) is_live h refl
    (own-Complete setup past legal actor n o ok is_live refl)

-- ---- Another hart's event

-- It is of another hart, and squashes none of this one.
pub live-elsewhere : (setup : Setup) (past : List Event) → is_legal setup past → (e : Event) (g : ℕ) → added e g ≡ []
    → is_of past g (seq_of e) ≡ false → ((s : ℕ) → is_of past g s ≡ true → squashes e past s ≡ false)
    → live (e ∷ past) g ≡ live past g
live-elsewhere setup past legal e g none away spares =
    ap (λ xs. filter (λ s. is_live (fate (e ∷ past) s)) (numbers past g ++ xs)) none
    ∙ (ap (filter (λ s. is_live (fate (e ∷ past) s))) (append-nil (numbers past g))
    ∙ filter-same (λ s. is_live (fate (e ∷ past) s)) (λ s. is_live (fate past s)) (numbers past g) (λ s m.
    let of_s = numbers-of setup past legal g s m in
    let other : seq_of e ≢ s =
    (λ same. absurd (true_false (sym of_s ∙ subst (λ z. is_of past g z ≡ false) same away))) in
    ap is_live (fate-other e past s other (spares s of_s))))

-- What an instruction of another hart squashes is of that hart.
pub spares_others : (past : List Event) (h g n : ℕ) (squashes_it : Bool) → is_of past h n ≡ true
    → is_of past g n ≡ false → (s : ℕ)
    → is_of past g s ≡ true → (squashes_it && (nat_lt n s && same_hart past n s)) ≡ false
spares_others past h g n squashes_it of_n away s of_s =
    let apart : (h == g) ≡ false = sym (is_of-is past h g n of_n) ∙ away in
    let same : same_hart past n s ≡ is_of past h s = same_hart-at past h n s of_n in
    let not_of : is_of past h s ≡ (g == h) = is_of-is past g h s of_s in
    grind (arith, nat_tests)

-- ---- Squashes

list-squash : (past : List Event) (e : Event) (h : ℕ) → IsSquashing past e h → (test : ℕ → Bool)
    → filter test (numbers (e ∷ past) h) ≡ filter test (numbers past h)
list-squash past e h squashing test =
    ap (λ xs. filter test (numbers past h ++ xs)) (squashing.adds_none h)
    ∙ ap (filter test) (append-nil (numbers past h))

above-squash : (f : Fate) (s n : ℕ) (was : Bool) → n < s → is_live f ≡ false → is_live f ≡ (nat_le s n && was)
above-squash f s n was above dead = grind (arith, nat_tests)

below-squash : (s n : ℕ) (was : Bool) → s ≤ n → was ≡ (nat_le s n && was)
below-squash s n was under = grind (arith, nat_tests)

-- A mispredicted completion leaves its hart all up to its own instruction.
misprediction-test : (setup : Setup) (past : List Event) → is_legal setup past → (actor n : ℕ) (o : Outcome)
    → refused setup past (Complete actor n o) ≡ None → (h : ℕ) → IsSquashing past (Complete actor n o) h → (s : ℕ)
    → member s (numbers past h) ≡ true
    → is_live (fate (Complete actor n o ∷ past) s) ≡ (nat_le s n && is_live (fate past s))
misprediction-test setup past legal actor n o ok h squashing s m =
    let e = Complete actor n o in
    let of_s = numbers-of setup past legal h s m in
    elim (cases_lt n s) [
      | inl above ↦
          above-squash (fate (e ∷ past) s) s n (is_live (fate past s)) above
          (squash_young setup past legal e ok h squashing s of_s above)
      | inr upto ↦
          elim (cases_eq s n) [
            | inl here ↦
                subst (λ z. is_live (fate (e ∷ past) z) ≡ is_live (fate past z)) (sym here)
                (own-Complete setup past legal actor n o ok is_live refl)
                ∙ below-squash s n (is_live (fate past s)) upto
            | inr other ↦
                ap is_live (squash_older past e h squashing s (omega arith))
                ∙ below-squash s n (is_live (fate past s)) upto
          ]
    ]

pub live-misprediction : (setup : Setup) (past : List Event) → is_legal setup past → (actor n : ℕ) (o : Outcome)
    → refused setup past (Complete actor n o) ≡ None → (h : ℕ) → IsSquashing past (Complete actor n o) h
    → live (Complete actor n o ∷ past) h ≡ filter (λ s. nat_le s n) (live past h)
live-misprediction setup past legal actor n o ok h squashing =
    let e = Complete actor n o in
    list-squash past e h squashing (λ s. is_live (fate (e ∷ past) s))
    ∙ (filter-same (λ s. is_live (fate (e ∷ past) s)) (λ s. nat_le s n && is_live (fate past s)) (numbers past h)
    (misprediction-test setup past legal actor n o ok h squashing)
    ∙ sym (filter-both (λ s. nat_le s n) (λ s. is_live (fate past s)) (numbers past h)))

-- ---- A retirement

-- As an instruction leaves the flight in front, no older one of its hart is live.
older_dead : (setup : Setup) (past : List Event) → is_legal setup past → (h n s : ℕ)
    → first (flight past h) ≡ Some n → is_of past h n ≡ true → is_in_flight (fate past n) ≡ true
    → is_of past h s ≡ true → s < n → is_live (fate past s) ≡ false
older_dead setup past legal h n s front of_n flies of_s under =
    let order = in_order setup past legal h s n of_s of_n under (λ gone. absurd (grind (arith, nat_tests))) in
    let passed = none_before setup past legal h n s front of_s under in
    grind (arith, nat_tests)

pub none_older : (setup : Setup) (past : List Event) → is_legal setup past → (actor n : ℕ) (x : Effect)
    → refused setup past (Retire actor n x) ≡ None → (h s : ℕ) → is_of past h n ≡ true → is_of past h s ≡ true → s < n
    → is_live (fate past s) ≡ false
none_older setup past legal actor n x ok h s of_n of_s under =
    older_dead setup past legal h n s
    (first_of_hart past (flight past) h n of_n (retire_allowed setup past actor n x ok).oldest) of_n
    (ap is_in_flight (was-Retire setup past actor n x ok)) of_s under

-- One that squashes leaves its hart nothing, and neither does a refetch.
late-dead : (f : Fate) → 6 ≤ stage f → is_live f ≡ false
late-dead f late = grind (arith, nat_tests)

live-emptied : (setup : Setup) (past : List Event) → is_legal setup past → (e : Event) → refused setup past e ≡ None
    → (h : ℕ) → IsEmptying past e h → live (e ∷ past) h ≡ []
live-emptied setup past legal e ok h emptying =
    let n = seq_of e in
    let squashing = emptying.squashing in
    list-squash past e h squashing (λ s. is_live (fate (e ∷ past) s))
    ∙ filter-none (λ s. is_live (fate (e ∷ past) s)) (numbers past h) (λ s m.
    let of_s = numbers-of setup past legal h s m in
    elim (cases_lt n s) [
      | inl above ↦ squash_young setup past legal e ok h squashing s of_s above
      | inr upto ↦
          elim (cases_eq s n) [
            | inl here ↦ late-dead (fate (e ∷ past) s)
                (subst (λ z. 6 ≤ stage (fate (e ∷ past) z)) (sym here) emptying.landed)
            | inr other ↦
                ap is_live (squash_older past e h squashing s (omega arith))
                ∙ older_dead setup past legal h n s emptying.front squashing.of_hart squashing.flew of_s (omega arith)
          ]
    ])

pub live-squashes_now : (setup : Setup) (past : List Event) → is_legal setup past → (actor n : ℕ) (x : Effect)
    → (ok : refused setup past (Retire actor n x) ≡ None) → squashes_at_retirement past n x ≡ true → (h : ℕ)
    → is_of past h n ≡ true
    → live (Retire actor n x ∷ past) h ≡ []
live-squashes_now setup past legal actor n x ok squashes_now h of_n =
    live-emptied setup past legal (Retire actor n x) ok h
    (emptying-Retire setup past actor n x ok h (squashing-Retire setup past legal actor n x ok squashes_now h of_n))

pub live-Refetch : (setup : Setup) (past : List Event) → is_legal setup past → (actor n : ℕ)
    → refused setup past (Refetch actor n) ≡ None → (h : ℕ) → is_of past h n ≡ true
    → live (Refetch actor n ∷ past) h ≡ []
live-Refetch setup past legal actor n ok h of_n =
    live-emptied setup past legal (Refetch actor n) ok h (emptying-Refetch setup past legal actor n ok h of_n)

-- Other harts keep what they have on their way.
pub live-Refetch_other : (setup : Setup) (past : List Event) → is_legal setup past → (actor n h g : ℕ)
    → is_of past h n ≡ true → is_of past g n ≡ false → live (Refetch actor n ∷ past) g ≡ live past g
live-Refetch_other setup past legal actor n h g of_n away =
    live-elsewhere setup past legal (Refetch actor n) g refl away (λ s of_s.
    let apart : (h == g) ≡ false = sym (is_of-is past h g n of_n) ∙ away in
    let same : same_hart past n s ≡ is_of past h s = same_hart-at past h n s of_n in
    let not_of : is_of past h s ≡ (g == h) = is_of-is past g h s of_s in
    grind (arith, nat_tests))

-- Any other takes its instruction away, which stood first.
pub live-front : (setup : Setup) (past : List Event) → is_legal setup past → (actor n : ℕ) (x : Effect)
    → refused setup past (Retire actor n x) ≡ None → (h : ℕ) → is_of past h n ≡ true → first (live past h) ≡ Some n
live-front setup past legal actor n x ok h of_n =
    least_first (λ s. is_live (fate past s)) n (numbers past h) (numbers-rise setup past legal h)
    (numbers-member setup past legal h n of_n)
    (ap is_live (was-Retire setup past actor n x ok))
    (λ s m under. none_older setup past legal actor n x ok h s of_n (numbers-of setup past legal h s m) under)

pub live-retired : (setup : Setup) (past : List Event) → is_legal setup past → (actor n : ℕ) (x : Effect)
    → (ok : refused setup past (Retire actor n x) ≡ None) → squashes_at_retirement past n x ≡ false
    → is_last x.next ≡ false → (h : ℕ) → is_of past h n ≡ true
    → live past h ≡ n ∷ live (Retire actor n x ∷ past) h
live-retired setup past legal actor n x ok straight going h of_n =
    let e = Retire actor n x in
    let calm : IsCalm past e = calm-Retire past actor n x straight in
    filter-loses-first (λ s. is_live (fate past s)) (λ s. is_live (fate (e ∷ past) s)) n (numbers past h)
    (numbers-rise setup past legal h)
    (live-front setup past legal actor n x ok h of_n)
    (ap is_live (now-Retire setup past actor n x ok going))
    (λ s m other. ap is_live (fate-other e past s (λ same. other (sym same)) (calm s)))
    ∙ ap (λ xs. n ∷ xs) (sym (ap (filter (λ s. is_live (fate (e ∷ past) s))) (append-nil (numbers past h))))
