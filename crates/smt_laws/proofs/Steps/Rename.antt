-- What a rename changes: its hart's oldest in rename goes to the end of the flight and into the queue, takes its
-- register off the free ones, and enters it into its hart's map.
use Rattle.std.specs.Prelude.{◌≡◌, ◌≢◌, ℕ, ◌<◌, ◌≤◌, Bool, true, false, not, ◌&&◌, nat_lt, List, [], ◌∷◌, ◌++◌, Option}
use Rattle.std.specs.Prelude.{Some, None, is_some}
use Rattle.std.specs.List.{filter}
use Rattle.std.proofs.Common.{◌∙◌, refl, sym, ap, subst, inl, inr, arith}
use Rattle.std.proofs.{lemmas.Bool.cases_Bool, lemmas.Bool.cases_eq, lemmas.Bool.cases_lt}
use Rattle.std.proofs.{lemmas.Bool.Decides.nat_tests, lemmas.List.append-nil}
use Rattle.rv_instr.specs.declared.op.Op.{Op}
use Rattle.events.specs.{declared.event.Event.Event, declared.event.Event.TheVariants.Rename}
use Rattle.smt_model.specs.{Basics.same_number, Setup.Setup, Setup.registers_of, Kinds.first_source}
use Rattle.smt_model.specs.{Kinds.second_source, Kinds.writes_register, Rules.refused, Rules.is_legal, Picture.picture}
use Rattle.smt_model.specs.{Picture.is_free, Picture.source_register_in}
use Rattle.smt_model.specs.Fates.{Fate, InRename, Renamed, Fetched, fate, fetching, is, is_in_flight, is_of, op_at}
use Rattle.smt_model.specs.Fates.{op_of_fetched, stage}
use Rattle.smt_model.specs.Flights.{numbers, all_numbers, in_rename, flight, queue}
use Rattle.smt_model.specs.Registers.{phys, writes, holder, source_register, mapped, is_unclaimed, value, value_by}
use Rattle.smt_model.specs.Registers.{first_value, reading_by, reads, option_inner}
use Rattle.smt_model.proofs.Lists.{member, member-behind, Each, Each-at, Each-filter, Rises, filter-same}
use Rattle.smt_model.proofs.Lists.{filter-loses-first, filter-gains-last}
use Rattle.smt_model.proofs.Fates.Moves.{rename_was, same_number-is, same_number-self}
use Rattle.smt_laws.proofs.{Fates.Order.in_order, Registers.Namings.result-none, Registers.Namings.taken}
use Rattle.smt_laws.proofs.Registers.Namings.{same_truth-is, completion-none}
use Rattle.smt_laws.proofs.Touching.{untouched_early}
use Rattle.smt_model.proofs.Registers.Claims.{claimant}
use Rattle.smt_model.proofs.Registers.Claims.{flight_claimed, committed_claimed}
use Rattle.smt_laws.proofs.Registers.Committing.{committed-kept, committer-Rename}
use Rattle.smt_laws.proofs.{Events.Harts.elsewhere, Staying.away, Staying.hart-calm}
use Rattle.smt_model.proofs.Allowed.{rename_allowed}
use Rattle.smt_laws.proofs.Registers.Held.{holder-Rename_own, holder-Rename_other}
use Rattle.smt_laws.proofs.{Registers.Sources.writes-of, Fates.Choosing.hart_there, Registers.Below.first_source-below}
use Rattle.smt_laws.proofs.{Registers.Below.second_source-below, Registers.Operands.IsSourceName}
use Rattle.smt_model.proofs.Fates.Numbers.{is_of-one, known_below, known_fetched, first_of_hart, numbers-of}
use Rattle.smt_model.proofs.Fates.Numbers.{numbers-member, numbers-rise, all_numbers-member, all_numbers-rise}
use Rattle.smt_laws.proofs.Events.Calm.{IsCalm, phys-other, fate-other, calm-flights, keeps_jobs}
use Rattle.smt_laws.proofs.Events.Freeing.{claims_on, same_test, is_flying, renamed_flies, reads-same, holding}
use Rattle.smt_laws.proofs.Events.Freeing.{held_same, true_false}
use Rattle.smt_model.specs.Steps.{ReadsTheSame, IsRename, FindsSource, is_register_taken, inserted}
use Rattle.smt_laws.proofs.Steps.RenameMap.{now-Rename, was-Rename, named-Rename, seen-Rename, mapped-Rename}
use Rattle.smt_laws.proofs.Steps.RenameMap.{mapped-Rename_other, seen_claimed, mapped_claimed, not_taken}

own-Rename : (setup : Setup) (past : List Event) (actor n : ℕ) (register : Option ℕ)
    → refused setup past (Rename actor n register) ≡ None
    → (test : Fate → Bool) → test Renamed ≡ test InRename
    → test (fate (Rename actor n register ∷ past) n) ≡ test (fate past n)
own-Rename setup past actor n register ok test same =
    ap test (now-Rename setup past actor n register ok)
    ∙ (same ∙ ap test (sym (was-Rename setup past actor n register ok)))

other-Rename : (past : List Event) (actor n : ℕ) (register : Option ℕ) (s : ℕ) (test : Fate → Bool) → s ≢ n
    → test (fate (Rename actor n register ∷ past) s) ≡ test (fate past s)
other-Rename past actor n register s test other =
    ap test (fate-other (Rename actor n register) past s (λ same. other (sym same)) refl)

-- ---- Places

list-Rename : (past : List Event) (actor n : ℕ) (register : Option ℕ) (h : ℕ) (test : Fate → Bool)
    → filter (λ s. test (fate (Rename actor n register ∷ past) s)) (numbers (Rename actor n register ∷ past) h)
    ≡ filter (λ s. test (fate (Rename actor n register ∷ past) s)) (numbers past h)
list-Rename past actor n register h test =
    ap (filter (λ s. test (fate (Rename actor n register ∷ past) s))) (append-nil (numbers past h))

leaves-Rename : (setup : Setup) (past : List Event) → is_legal setup past → (actor n : ℕ) (register : Option ℕ)
    → refused setup past (Rename actor n register) ≡ None → (h : ℕ) → is_of past h n ≡ true
    → in_rename past h ≡ n ∷ in_rename (Rename actor n register ∷ past) h
leaves-Rename setup past legal actor n register ok h of_n =
    filter-loses-first (λ s. is (fate past s) InRename) (λ s. is (fate (Rename actor n register ∷ past) s) InRename) n
    (numbers past h)
    (numbers-rise setup past legal h)
    (first_of_hart past (in_rename past) h n of_n (rename_allowed setup past actor n register ok).oldest)
    (ap (λ f. is f InRename) (now-Rename setup past actor n register ok))
    (λ x m other. other-Rename past actor n register x (λ f. is f InRename) other)
    ∙ ap (λ xs. n ∷ xs) (sym (list-Rename past actor n register h (λ f. is f InRename)))

older_flight : (setup : Setup) (past : List Event) → is_legal setup past → (actor n : ℕ) (register : Option ℕ)
    → refused setup past (Rename actor n register) ≡ None → (h x : ℕ) → is_of past h n ≡ true → is_of past h x ≡ true
    → is_in_flight (fate past x) ≡ true → x < n
older_flight setup past legal actor n register ok h x of_n of_x flies =
    let was = rename_was setup past actor n register ok in
    elim (cases_lt x n) [
      | inl under ↦ under
      | inr above ↦
          let other : n ≢ x = λ same. absurd (grind (arith, nat_tests)) in
          let order = in_order setup past legal h n x of_n of_x (omega arith) (grind (arith, nat_tests)) in
          absurd (grind (arith, nat_tests))
    ]

enters-Rename : (setup : Setup) (past : List Event) → is_legal setup past → (actor n : ℕ) (register : Option ℕ)
    → refused setup past (Rename actor n register) ≡ None → (h : ℕ) → is_of past h n ≡ true
    → flight (Rename actor n register ∷ past) h ≡ flight past h ++ n ∷ []
enters-Rename setup past legal actor n register ok h of_n =
    list-Rename past actor n register h is_in_flight
    ∙ filter-gains-last (λ s. is_in_flight (fate past s)) (λ s. is_in_flight (fate (Rename actor n register ∷ past) s))
    n (numbers past h)
    (numbers-rise setup past legal h) (numbers-member setup past legal h n of_n)
    (ap is_in_flight (was-Rename setup past actor n register ok))
    (ap is_in_flight (now-Rename setup past actor n register ok))
    (λ x m other. other-Rename past actor n register x is_in_flight other)
    (λ x m flies. older_flight setup past legal actor n register ok h x of_n (numbers-of setup past legal h x m) flies)

-- ---- The queue

inserted-front : (n : ℕ) (ys : List ℕ) → Each (λ y. n < y) ys → inserted n ys ≡ n ∷ ys
inserted-front n [] all = refl
inserted-front n (y ∷ ys) all =
    let above : n < y = all.0 in
    let front : nat_lt n y ≡ true = grind (arith, nat_tests) in
    rw front refl

inserted-behind : (n x : ℕ) (ys : List ℕ) → x < n → inserted n (x ∷ ys) ≡ x ∷ inserted n ys
inserted-behind n x ys under = let behind : nat_lt n x ≡ false = grind (arith, nat_tests) in rw behind refl

-- One more passes, at its place.
filter-inserts : (p q : ℕ → Bool) (n : ℕ) (xs : List ℕ) → Rises xs → member n xs ≡ true → p n ≡ false → q n ≡ true
    → ((x : ℕ) → member x xs ≡ true → x ≢ n → q x ≡ p x) → filter q xs ≡ inserted n (filter p xs)
filter-inserts p q n [] r m pn qn same = absurd (grind arith)
filter-inserts p q n (x ∷ xs) r m pn qn same =
    elim (cases_eq x n) [
      | inl here ↦
          let gone : p x ≡ false = subst (λ z. p z ≡ false) (sym here) pn in
          let kept : q x ≡ true = subst (λ z. q z ≡ true) (sym here) qn in
          let others : filter q xs ≡ filter p xs =
          filter-same q p xs (λ y in_y.
          let above : x < y = Each-at (λ z. x < z) xs r.0 y in_y in
          same y (member-behind x y xs in_y) (omega arith)) in
          rw (gone, kept, others)
          (sym (subst (λ z. inserted z (filter p xs) ≡ x ∷ filter p xs) here
          (inserted-front x (filter p xs) (Each-filter (λ y. x < y) p xs r.0))))
      | inr other ↦
          let there : member n xs ≡ true = grind (arith, nat_tests) in
          let under : x < n = Each-at (λ z. x < z) xs r.0 n there in
          let also : q x ≡ p x = same x (grind (arith, nat_tests)) other in
          let rest : filter q xs ≡ inserted n (filter p xs) =
          filter-inserts p q n xs r.1 there pn qn (λ y in_y. same y (member-behind x y xs in_y)) in
          elim (cases_Bool (p x)) [
            | inl kept ↦ rw (also, kept, rest) (sym (inserted-behind n x (filter p xs) under))
            | inr gone ↦ rw (also, gone) rest
          ]
    ]

queue-Rename : (setup : Setup) (past : List Event) → is_legal setup past → (actor n : ℕ) (register : Option ℕ)
    → refused setup past (Rename actor n register) ≡ None
    → queue (Rename actor n register ∷ past) ≡ inserted n (queue past)
queue-Rename setup past legal actor n register ok =
    let was = rename_was setup past actor n register ok in
    ap (filter (λ s. is (fate (Rename actor n register ∷ past) s) Renamed)) (append-nil (all_numbers past))
    ∙ filter-inserts (λ s. is (fate past s) Renamed) (λ s. is (fate (Rename actor n register ∷ past) s) Renamed) n
    (all_numbers past)
    (all_numbers-rise setup past legal)
    (all_numbers-member setup past legal n (known_below setup past legal n (omega arith)))
    (ap (λ f. is f Renamed) (was-Rename setup past actor n register ok))
    (ap (λ f. is f Renamed) (now-Rename setup past actor n register ok))
    (λ x m other. other-Rename past actor n register x (λ f. is f Renamed) other)

-- ---- Free registers

rename_claims : (setup : Setup) (past : List Event) → is_legal setup past → (actor n : ℕ) (register : Option ℕ)
    → refused setup past (Rename actor n register) ≡ None → (p : ℕ) → is_unclaimed setup past p ≡ false
    → is_unclaimed setup (Rename actor n register ∷ past) p ≡ false
rename_claims setup past legal actor n register ok =
    let e = Rename actor n register in
    let was = rename_was setup past actor n register ok in
    claims_on setup past (e ∷ past) (ok, legal)
    (λ s q flies names.
    let other : s ≢ n = λ same. absurd (grind (arith, nat_tests)) in
    flight_claimed setup (e ∷ past) (ok, legal) s q (other-Rename past actor n register s is_in_flight other ∙ flies)
    (phys-other e past s (λ same. other (sym same)) ∙ names))
    (λ h r is_register.
    subst (λ x. is_unclaimed setup (e ∷ past) x ≡ false)
    (committed-kept setup past legal e ok h r (committer-Rename setup past legal actor n register ok h r))
    (committed_claimed setup (e ∷ past) h r is_register))

rename_claimed : (setup : Setup) (past : List Event) → is_legal setup past → (actor n : ℕ) (register : Option ℕ)
    → refused setup past (Rename actor n register) ≡ None → (p : ℕ) → is_register_taken register p ≡ false
    → is_unclaimed setup (Rename actor n register ∷ past) p ≡ false → is_unclaimed setup past p ≡ false
rename_claimed setup past legal actor n register ok p apart claimed =
    let e = Rename actor n register in
    elim (claimant setup (e ∷ past) p claimed) [
      | inl flight ↦
          let other : flight.one ≢ n =
          (λ same.
          let mine : register ≡ Some p =
          sym (named-Rename past actor n register) ∙ (subst (λ z. phys (e ∷ past) z ≡ Some p) same flight.names) in
          let taken_it : is_register_taken register p ≡ true =
          ap (λ o. same_number o (Some p)) mine ∙ same_number-self (Some p) in
          absurd (true_false (sym taken_it ∙ apart))) in
          flight_claimed setup past legal flight.one p
          (sym (other-Rename past actor n register flight.one is_in_flight other) ∙ flight.flies)
          (sym (phys-other e past flight.one (λ same. other (sym same))) ∙ flight.names)
      | inr register_claim ↦
          let same = committed-kept setup past legal e ok register_claim.hart register_claim.register
          (committer-Rename setup past legal actor n register ok register_claim.hart register_claim.register) in
          subst (λ x. is_unclaimed setup past x ≡ false) (sym same ∙ register_claim.commits)
          (committed_claimed setup past register_claim.hart register_claim.register register_claim.is_register)
    ]

rename_takes : (setup : Setup) (past : List Event) → is_legal setup past → (actor n : ℕ) (register : Option ℕ)
    → refused setup past (Rename actor n register) ≡ None → (p : ℕ) → is_register_taken register p ≡ true
    → is_unclaimed setup (Rename actor n register ∷ past) p ≡ false
rename_takes setup past legal actor n register ok p takes_it =
    flight_claimed setup (Rename actor n register ∷ past) (ok, legal) n p
    (ap is_in_flight (now-Rename setup past actor n register ok))
    (named-Rename past actor n register ∙ same_number-is register (Some p) takes_it)

and_not : (a b : Bool) → b ≡ true → (a && not b) ≡ false
and_not true b is = rw is refl
and_not false b is = refl

and_all : (a b : Bool) → b ≡ false → (a && not b) ≡ a
and_all true b is = rw is refl
and_all false b is = refl

and_left_first : (a b c : Bool) → (a && (b && c)) ≡ ((a && b) && c)
and_left_first true b c = refl
and_left_first false b c = refl

unclaimed-Rename : (setup : Setup) (past : List Event) → is_legal setup past → (actor n : ℕ) (register : Option ℕ)
    → refused setup past (Rename actor n register) ≡ None → (p : ℕ)
    → is_unclaimed setup (Rename actor n register ∷ past) p
    ≡ (is_unclaimed setup past p && not (is_register_taken register p))
unclaimed-Rename setup past legal actor n register ok p =
    elim (cases_Bool (is_register_taken register p)) [
      | inl mine ↦ rename_takes setup past legal actor n register ok p mine
          ∙ sym (and_not (is_unclaimed setup past p) (is_register_taken register p) mine)
      | inr another ↦
          same_test (is_unclaimed setup (Rename actor n register ∷ past) p) (is_unclaimed setup past p)
          (rename_claimed setup past legal actor n register ok p another)
          (rename_claims setup past legal actor n register ok p)
          ∙ sym (and_all (is_unclaimed setup past p) (is_register_taken register p) another)
    ]

free-Rename : (setup : Setup) (past : List Event) → is_legal setup past → (actor n : ℕ) (register : Option ℕ)
    → refused setup past (Rename actor n register) ≡ None → (p : ℕ)
    → is_free setup (Rename actor n register ∷ past) p ≡ (is_free setup past p && not (is_register_taken register p))
free-Rename setup past legal actor n register ok p =
    ap (λ b. nat_lt p (registers_of setup) && b) (unclaimed-Rename setup past legal actor n register ok p)
    ∙ and_left_first (nat_lt p (registers_of setup)) (is_unclaimed setup past p) (not (is_register_taken register p))

-- ---- Values and readings

value_by-same : (setup : Setup) (past : List Event) (actor n : ℕ) (register : Option ℕ) (otherwise o : Option ℕ)
    → value_by (Rename actor n register ∷ past) otherwise o ≡ value_by past otherwise o
value_by-same setup past actor n register otherwise None = refl
value_by-same setup past actor n register otherwise (Some w) = refl

value-Rename_other : (setup : Setup) (past : List Event) → is_legal setup past → (actor n : ℕ) (register : Option ℕ)
    → refused setup past (Rename actor n register) ≡ None → (x : ℕ) → register ≢ Some x
    → value setup (Rename actor n register ∷ past) x ≡ value setup past x
value-Rename_other setup past legal actor n register ok x apart =
    ap (value_by (Rename actor n register ∷ past) (first_value setup x))
    (holder-Rename_other setup past legal actor n register ok x apart)
    ∙ value_by-same setup past actor n register (first_value setup x) (holder past x)

value-Rename_own : (setup : Setup) (past : List Event) → is_legal setup past → (actor n p : ℕ)
    → refused setup past (Rename actor n (Some p)) ≡ None → value setup (Rename actor n (Some p) ∷ past) p ≡ None
value-Rename_own setup past legal actor n p ok =
    let was = rename_was setup past actor n (Some p) ok in
    ap (value_by (Rename actor n (Some p) ∷ past) (first_value setup p)) (holder-Rename_own past actor n p)
    ∙ ap option_inner (result-none setup past legal n (omega arith))

reads-Rename_other : (setup : Setup) (past : List Event) → is_legal setup past → (actor n : ℕ) (register : Option ℕ)
    → refused setup past (Rename actor n register) ≡ None → (which : Op → ℕ) → IsSourceName which → (s : ℕ)
    → is (fate past s) Renamed ≡ true
    → ReadsTheSame (picture setup past) (picture setup (Rename actor n register ∷ past)) which s
reads-Rename_other setup past legal actor n register ok which names s waits =
    let e = Rename actor n register in
    let was = rename_was setup past actor n register ok in
    let other : s ≢ n = λ same. absurd (grind (arith, nat_tests)) in
    let still : is (fate (e ∷ past) s) Renamed ≡ true =
    other-Rename past actor n register s (λ f. is f Renamed) other ∙ waits in
    let flying = is_flying setup past legal e ok s (renamed_flies past s waits) (renamed_flies (e ∷ past) s still) in
    reads-same setup past legal e ok which s flying (λ some.
    value-Rename_other setup past legal actor n register ok (source_register_in past which s (fetching past s))
    (not_taken setup past actor n register ok (source_register_in past which s (fetching past s))
    (seen_claimed setup past legal which names s flying.fetch flying.fetched some flying.was)))

-- What it finds for its own sources.
own_seen : (setup : Setup) (past : List Event) → is_legal setup past → (actor n : ℕ) (register : Option ℕ)
    → refused setup past (Rename actor n register) ≡ None → (h : ℕ) → is_of past h n ≡ true → (which : Op → ℕ)
    → (f : Fetched)
    → fetching past n ≡ Some f → source_register_in (Rename actor n register ∷ past) which n (fetching past n)
    ≡ mapped past h (which (op_at past n))
own_seen setup past legal actor n register ok h of_n which f at =
    let e = Rename actor n register in
    let of_f : is_of past f.hart n ≡ true = rw at (grind (arith, nat_tests)) in
    let same : f.hart ≡ h = is_of-one past f.hart h n of_f of_n in
    ap (source_register_in (e ∷ past) which n) at
    ∙ (ap (λ g. source_register (e ∷ past) g (which (op_of_fetched (Some f))) n) same
    ∙ (seen-Rename setup past legal actor n register ok h (which (op_of_fetched (Some f))) of_n
    ∙ ap (λ o. mapped past h (which (op_of_fetched o))) (sym at)))

own_reads_at : (setup : Setup) (past : List Event) (actor n : ℕ) (register : Option ℕ) (which : Op → ℕ) (f : Fetched)
    → fetching past n ≡ Some f
    → reads setup which (Rename actor n register ∷ past) n
    ≡ holding (which (op_at past n))
    (value setup (Rename actor n register ∷ past)
    (source_register_in (Rename actor n register ∷ past) which n (fetching past n)))
own_reads_at setup past actor n register which f at =
    let e = Rename actor n register in
    ap (reading_by setup which (e ∷ past) n) at
    ∙ ap (λ o. holding (which (op_of_fetched o)) (value setup (e ∷ past) (source_register_in (e ∷ past) which n o)))
    (sym at)

op_below : (past : List Event) (n : ℕ) (which : Op → ℕ) → IsSourceName which → (f : Fetched) → fetching past n ≡ Some f
    → which (op_at past n) < 32
op_below past n which names f at = rw at (names f.word)

own_reads : (setup : Setup) (past : List Event) → is_legal setup past → (actor n : ℕ) (register : Option ℕ)
    → refused setup past (Rename actor n register) ≡ None → (h : ℕ) → is_of past h n ≡ true → (which : Op → ℕ)
    → IsSourceName which
    → (f : Fetched) → fetching past n ≡ Some f
    → reads setup which (Rename actor n register ∷ past) n ≡ holding (which (op_at past n))
    (value setup past (mapped past h (which (op_at past n))))
own_reads setup past legal actor n register ok h of_n which names f at =
    let e = Rename actor n register in
    own_reads_at setup past actor n register which f at
    ∙ (ap (λ x. holding (which (op_at past n)) (value setup (e ∷ past) x))
    (own_seen setup past legal actor n register ok h of_n which f at)
    ∙ held_same (which (op_at past n)) (value setup (e ∷ past) (mapped past h (which (op_at past n))))
    (value setup past (mapped past h (which (op_at past n)))) (λ some.
    value-Rename_other setup past legal actor n register ok (mapped past h (which (op_at past n)))
    (not_taken setup past actor n register ok (mapped past h (which (op_at past n)))
    (mapped_claimed setup past legal h (which (op_at past n)) (hart_there setup past legal h n of_n) some
    (op_below past n which names f at)))))

finds_source : (setup : Setup) (past : List Event) → is_legal setup past → (actor n : ℕ) (register : Option ℕ)
    → refused setup past (Rename actor n register) ≡ None → (h : ℕ) → is_of past h n ≡ true → (which : Op → ℕ)
    → IsSourceName which
    → FindsSource (picture setup past) (picture setup (Rename actor n register ∷ past)) h n which
finds_source setup past legal actor n register ok h of_n which names =
    let was = rename_was setup past actor n register ok in
    let found = known_fetched setup past legal n (omega arith) in
    record {
      seen = λ some. own_seen setup past legal actor n register ok h of_n which found.fetch found.fetched;
      reads = own_reads setup past legal actor n register ok h of_n which names found.fetch found.fetched;
    }

not_writing : (past : List Event) (g r n : ℕ) → is_of past g n ≡ false → writes past g r n ≡ false
not_writing past g r n apart =
    elim (cases_Bool (writes past g r n)) [
      | inl mine ↦ absurd (true_false (sym (writes-of past g r n mine) ∙ apart))
      | inr another ↦ another
    ]

was_free : (setup : Setup) (past : List Event) (actor n : ℕ) (register : Option ℕ)
    → refused setup past (Rename actor n register) ≡ None
    → (x : ℕ) → register ≡ Some x → is_free setup past x ≡ true
was_free setup past actor n None ok x same = absurd (grind arith)
was_free setup past actor n (Some p) ok x same =
    let at : p ≡ x = grind arith in
    let rule = taken setup past actor n p ok in
    let range = rule.in_range in
    let free = rule.unclaimed in
    subst (λ z. is_free setup past z ≡ true) at (grind (arith, nat_tests))

emptied : (setup : Setup) (past : List Event) → is_legal setup past → (actor n : ℕ) (register : Option ℕ)
    → refused setup past (Rename actor n register) ≡ None → (x : ℕ) → register ≡ Some x
    → value setup (Rename actor n register ∷ past) x ≡ None
emptied setup past legal actor n None ok x same = absurd (grind arith)
emptied setup past legal actor n (Some p) ok x same =
    let at : p ≡ x = grind arith in
    subst (λ z. value setup (Rename actor n (Some p) ∷ past) z ≡ None)
    at (value-Rename_own setup past legal actor n p ok)

not_mine : (register : Option ℕ) (x : ℕ) → is_register_taken register x ≡ false → register ≢ Some x
not_mine register x apart same =
    absurd (true_false (sym (ap (λ o. same_number o (Some x)) same ∙ same_number-self (Some x)) ∙ apart))

was_early : (setup : Setup) (past : List Event) (actor n : ℕ) (register : Option ℕ)
    → refused setup past (Rename actor n register) ≡ None
    → stage (fate past n) ≤ 4
was_early setup past actor n register ok = let was = rename_was setup past actor n register ok in omega arith

pub steps-Rename : (setup : Setup) (past : List Event) → is_legal setup past → (actor n : ℕ) (register : Option ℕ)
    → refused setup past (Rename actor n register) ≡ None → (h : ℕ) → is_of past h n ≡ true
    → IsRename (picture setup past) (picture setup (Rename actor n register ∷ past)) h n register
steps-Rename setup past legal actor n register ok h of_n =
    let e = Rename actor n register in
    let calm : IsCalm past e = λ s. refl in
    let commits = committer-Rename setup past legal actor n register ok in
    record {
      of_hart = of_n;
      fits = same_truth-is (is_some register) (writes_register (op_at past n))
          (rename_allowed setup past actor n register ok).named;
      was_free = was_free setup past actor n register ok;
      absent = ap is_in_flight (was-Rename setup past actor n register ok);
      fate = now-Rename setup past actor n register ok;
      phys = named-Rename past actor n register;
      completion = completion-none setup past legal n (was_early setup past actor n register ok);
      untouched = untouched_early setup past legal n (was_early setup past actor n register ok);
      in_rename = leaves-Rename setup past legal actor n register ok h of_n;
      flight = enters-Rename setup past legal actor n register ok h of_n;
      mapped = λ r low high. mapped-Rename setup past legal actor n register ok h r of_n low;
      queue = queue-Rename setup past legal actor n register ok;
      free = free-Rename setup past legal actor n register ok;
      emptied = emptied setup past legal actor n register ok;
      values = λ x claimed apart. value-Rename_other setup past legal actor n register ok x (not_mine register x apart);
      readings = λ s waits. (
        reads-Rename_other setup past legal actor n register ok first_source first_source-below s waits,
        reads-Rename_other setup past legal actor n register ok second_source second_source-below s waits,
      );
      first = finds_source setup past legal actor n register ok h of_n first_source first_source-below;
      second = finds_source setup past legal actor n register ok h of_n second_source second_source-below;
      flights = calm-flights setup e past calm;
      stays = record {
        hart = hart-calm setup past e calm h refl InRename Renamed (was-Rename setup past actor n register ok)
            (now-Rename setup past actor n register ok)
            refl tt tt refl tt (λ r low high. committed-kept setup past legal e ok h r (commits h r)) refl refl;
        others = λ g other.
            let far = away past e calm (λ g. refl) h g of_n other in
            elsewhere setup past legal e ok g far
            (λ r. mapped-Rename_other setup past legal actor n register ok g r (not_writing past g r n far.not_of))
            (λ r. committed-kept setup past legal e ok g r (commits g r)) refl refl;
        shared = record {
          kept = λ s f at. at;
          operands = keeps_jobs setup past legal e ok;
          queue = tt;
          free = tt;
          values = tt;
          readings = tt;
          job = λ k. refl;
          fetches = record { fetched = λ s. refl; fetches = refl; last_fetched = refl };
          records = refl;
          output = refl;
          memory = record { byte = λ addr. refl; reserved = λ g. refl; touched = λ s. refl; looks = refl };
        };
      };
    }
