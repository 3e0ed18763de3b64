-- The chain: in every legal history what a going hart has on its way leads from where it has retired to, to where it
-- fetches.
use Rattle.std.specs.Prelude.{◌≡◌, ◌≢◌, ℕ, Bool, true, false, ◌==◌, ◌&&◌, nat_le, List, [], ◌∷◌, ◌++◌, Option, Some}
use Rattle.std.specs.Prelude.{None, is_some}
use Rattle.std.specs.List.{filter}
use Rattle.std.proofs.Common.{◌∙◌, refl, sym, ap, subst, inl, inr, arith}
use Rattle.std.proofs.{lemmas.Bool.cases_Bool, lemmas.Bool.cases_eq, lemmas.Bool.false_from_ne_true}
use Rattle.std.proofs.{lemmas.Bool.Decides.nat_tests}
use Rattle.events.specs.{declared.effect.Next.Next, declared.effect.Next.TheVariants.Pc}
use Rattle.events.specs.{declared.effect.Next.TheVariants.Ended, declared.effect.Next.TheVariants.Stopped}
use Rattle.events.specs.{declared.effect.Outcome.Outcome, declared.effect.Effect.Effect, declared.event.Event.Event}
use Rattle.events.specs.declared.event.Event.TheVariants.{Fetch, Decode, Rename, Issue, Complete, Drop, Retire, Refetch}
use Rattle.smt_model.specs.{declared.config.Status.Status, Basics.holds_of, Setup.Setup, Nexts.is_last, Nexts.pc_after}
use Rattle.smt_model.specs.{Nexts.redirect_pc, Plain.status_after, Plain.is_going_status, Flights.numbers, Flights.live}
use Rattle.smt_model.specs.{Memory.status, Memory.is_going, Fetching.fetch_pc, Rules.refused, Rules.is_legal}
use Rattle.smt_model.specs.Fates.{Fetched, fate, fetching, completion, is_of, is_live, mispredicts}
use Rattle.smt_model.specs.Fates.{squashes_at_retirement}
use Rattle.smt_model.proofs.Lists.{member, member-filter, Rises, Rises-filter, filter-member}
use Rattle.smt_model.proofs.{Allowed.fetch_allowed, Fates.Moves.fetch_number, Fates.Moves.fetch_was}
use Rattle.smt_model.proofs.{Fates.Moves.complete_was, Fates.Sound.sound}
use Rattle.smt_laws.proofs.Registers.Namings.{completion-none}
use Rattle.smt_laws.proofs.{Events.Calm.completion-other, Events.Freeing.true_false, Steps.Complete.was-Complete}
use Rattle.smt_laws.proofs.{Steps.Complete.completion-Complete, Steps.Misprediction.squashing-Complete}
use Rattle.smt_laws.proofs.Steps.Fetch.{own_fetched, place-Fetch}
use Rattle.smt_model.proofs.Fates.Numbers.{known_fetched, is_of-below, fetching-none, fetching-kept, numbers-of}
use Rattle.smt_model.proofs.Fates.Numbers.{numbers-member, numbers-rise}
use Rattle.smt_laws.specs.Sequential.{retired_pc}
use Rattle.smt_laws.specs.Chain.{Hop, hop_of, hop, IsChain, FollowsTheProgram}
use Rattle.smt_laws.proofs.Done.{IsDone, done-at}
use Rattle.smt_laws.proofs.Refetched.{chain-Refetch}
use Rattle.smt_laws.proofs.Paths.{Chained, chain-first, chain-same, chain-push, chain-squash}
use Rattle.smt_laws.proofs.Live.{live-Decode, live-Rename, live-Issue, live-Drop, live-Complete, live-elsewhere}
use Rattle.smt_laws.proofs.Live.{spares_others, live-misprediction, live-squashes_now, live-retired}

live_of : (setup : Setup) (past : List Event) → is_legal setup past → (h s : ℕ) → member s (live past h) ≡ true
    → is_of past h s ≡ true
live_of setup past legal h s m =
    numbers-of setup past legal h s (member-filter (λ z. is_live (fate past z)) s (numbers past h) m).0

pub live-has : (setup : Setup) (past : List Event) → is_legal setup past → (h s : ℕ) → is_of past h s ≡ true
    → is_live (fate past s) ≡ true
    → member s (live past h) ≡ true
live-has setup past legal h s of_s lives =
    filter-member (λ z. is_live (fate past z)) s (numbers past h) (numbers-member setup past legal h s of_s) lives

live-rise : (setup : Setup) (past : List Event) → is_legal setup past → (h : ℕ) → Rises (live past h)
live-rise setup past legal h =
    Rises-filter (λ z. is_live (fate past z)) (numbers past h) (numbers-rise setup past legal h)

-- ---- A fetch

hop-fetched : (setup : Setup) (past : List Event) → is_legal setup past
    → (actor hart n pc : ℕ) (word : Option ℕ) (predicted : ℕ)
    → refused setup past (Fetch actor hart n pc word predicted) ≡ None → (h s : ℕ) → member s (live past h) ≡ true
    → hop (Fetch actor hart n pc word predicted ∷ past) s ≡ hop past s
hop-fetched setup past legal actor hart n pc word predicted ok h s m =
    ap (λ o. hop_of o (completion past s))
    (fetching-kept setup past legal (Fetch actor hart n pc word predicted) ok s
    (is_of-below setup past legal h s (live_of setup past legal h s m)))

hop-new : (setup : Setup) (past : List Event) → is_legal setup past
    → (actor hart n pc : ℕ) (word : Option ℕ) (predicted : ℕ)
    → refused setup past (Fetch actor hart n pc word predicted) ≡ None
    → hop (Fetch actor hart n pc word predicted ∷ past) n ≡ Some (record { pc = pc; next = predicted })
hop-new setup past legal actor hart n pc word predicted ok =
    let was = fetch_was setup past (sound setup past legal) actor hart n pc word predicted ok in
    let f : Fetched = record { hart = hart; pc = pc; word = word; predicted = predicted } in
    ap (λ o. hop_of o (completion past n)) (own_fetched past actor hart n pc word predicted)
    ∙ ap (λ o. hop_of (Some f) o) (completion-none setup past legal n (omega arith))

chain-Fetch_own : (setup : Setup) (past : List Event) → is_legal setup past
    → (actor h n pc : ℕ) (word : Option ℕ) (predicted : ℕ)
    → refused setup past (Fetch actor h n pc word predicted) ≡ None → Chained setup past h
    → Chained setup (Fetch actor h n pc word predicted ∷ past) h
chain-Fetch_own setup past legal actor h n pc word predicted ok chain =
    let e = Fetch actor h n pc word predicted in
    let at = (fetch_allowed setup past actor h n pc word predicted ok).pc_is in
    let pc_is : fetch_pc setup past h ≡ pc = grind (arith, nat_tests) in
    let one : Hop = record { pc = pc; next = predicted } in
    let same : IsChain (hop (e ∷ past)) (live past h) (retired_pc setup past h) (fetch_pc setup past h) =
    chain-same (hop past) (hop (e ∷ past)) (live past h) (retired_pc setup past h) (fetch_pc setup past h)
    (hop-fetched setup past legal actor h n pc word predicted ok h) chain in
    let longer : IsChain (hop (e ∷ past)) (live past h ++ n ∷ []) (retired_pc setup past h) predicted =
    chain-push (hop (e ∷ past)) (live past h) n one (hop-new setup past legal actor h n pc word predicted ok)
    (retired_pc setup past h)
    (subst (λ z. IsChain (hop (e ∷ past)) (live past h) (retired_pc setup past h) z) pc_is same) in
    let goes : fetch_pc setup (e ∷ past) h ≡ predicted =
    (let mine : (h == h) ≡ true = grind (arith, nat_tests) in rw mine refl) in
    subst (λ z. IsChain (hop (e ∷ past)) (live (e ∷ past) h) (retired_pc setup past h) z) (sym goes)
    (subst (λ xs. IsChain (hop (e ∷ past)) xs (retired_pc setup past h) predicted)
    (sym (place-Fetch setup past legal actor h n pc word predicted ok is_live)) longer)

fetched_elsewhere : (setup : Setup) (past : List Event) → is_legal setup past
    → (actor hart n pc : ℕ) (word : Option ℕ) (predicted : ℕ)
    → refused setup past (Fetch actor hart n pc word predicted) ≡ None → (h : ℕ) → (hart == h) ≡ false
    → live (Fetch actor hart n pc word predicted ∷ past) h ≡ live past h
fetched_elsewhere setup past legal actor hart n pc word predicted ok h apart =
    let given = fetch_number setup past actor hart n pc word predicted ok in
    live-elsewhere setup past legal (Fetch actor hart n pc word predicted) h (rw apart refl)
    (ap (holds_of (λ f. f.hart == h)) (fetching-none setup past legal n (omega arith))) (λ s of_s. refl)

chain-Fetch_other : (setup : Setup) (past : List Event) → is_legal setup past
    → (actor hart n pc : ℕ) (word : Option ℕ) (predicted : ℕ)
    → refused setup past (Fetch actor hart n pc word predicted) ≡ None → (h : ℕ) → (hart == h) ≡ false
    → Chained setup past h
    → Chained setup (Fetch actor hart n pc word predicted ∷ past) h
chain-Fetch_other setup past legal actor hart n pc word predicted ok h apart chain =
    let e = Fetch actor hart n pc word predicted in
    let same : IsChain (hop (e ∷ past)) (live past h) (retired_pc setup past h) (fetch_pc setup past h) =
    chain-same (hop past) (hop (e ∷ past)) (live past h) (retired_pc setup past h) (fetch_pc setup past h)
    (hop-fetched setup past legal actor hart n pc word predicted ok h) chain in
    let stays : fetch_pc setup (e ∷ past) h ≡ fetch_pc setup past h = rw apart refl in
    subst (λ z. IsChain (hop (e ∷ past)) (live (e ∷ past) h) (retired_pc setup past h) z) (sym stays)
    (subst (λ xs. IsChain (hop (e ∷ past)) xs (retired_pc setup past h) (fetch_pc setup past h))
    (sym (fetched_elsewhere setup past legal actor hart n pc word predicted ok h apart)) same)

-- ---- A completion

-- One that was predicted right leads where it was predicted to.
straight_on : (next : Next) (predicted : ℕ) → is_some (redirect_pc next predicted) ≡ false
    → pc_after next predicted ≡ predicted
straight_on (Pc pc) predicted straight = grind (arith, nat_tests)
straight_on (Ended number) predicted straight = refl
straight_on (Stopped cause) predicted straight = refl

-- A mispredicted one leads where it sends its hart.
sends : (next : Next) (predicted before : ℕ) → is_some (redirect_pc next predicted) ≡ true
    → pc_after next predicted ≡ pc_after next before
sends (Pc pc) predicted before mispredicted_next = refl
sends (Ended number) predicted before mispredicted_next = absurd (grind arith)
sends (Stopped cause) predicted before mispredicted_next = absurd (grind arith)

mispredicts-at : (past : List Event) (n : ℕ) (next : Next) (f : Fetched) → fetching past n ≡ Some f
    → mispredicts past n next ≡ is_some (redirect_pc next f.predicted)
unfolding mispredicts
mispredicts-at past n next f at = ap (holds_of (λ g. is_some (redirect_pc next g.predicted))) at

hop-before : (setup : Setup) (past : List Event) → is_legal setup past → (actor n : ℕ) (o : Outcome)
    → refused setup past (Complete actor n o) ≡ None
    → (f : Fetched) → fetching past n ≡ Some f → hop past n ≡ Some (record { pc = f.pc; next = f.predicted })
hop-before setup past legal actor n o ok f at =
    let was = complete_was setup past (sound setup past legal) actor n o ok in
    ap (λ g. hop_of g (completion past n)) at ∙ ap (hop_of (Some f)) (completion-none setup past legal n (omega arith))

hop-completed : (past : List Event) (actor n : ℕ) (o : Outcome) (f : Fetched) → fetching past n ≡ Some f
    → hop (Complete actor n o ∷ past) n ≡ Some (record { pc = f.pc; next = pc_after o.next f.predicted })
hop-completed past actor n o f at =
    ap (λ g. hop_of g (completion (Complete actor n o ∷ past) n)) at
    ∙ ap (hop_of (Some f)) (completion-Complete past actor n o)

hop-other : (past : List Event) (actor n : ℕ) (o : Outcome) (s : ℕ) → n ≢ s
    → hop (Complete actor n o ∷ past) s ≡ hop past s
hop-other past actor n o s other = ap (hop_of (fetching past s)) (completion-other (Complete actor n o) past s other)

hop-straight : (setup : Setup) (past : List Event) → is_legal setup past → (actor n : ℕ) (o : Outcome)
    → refused setup past (Complete actor n o) ≡ None
    → mispredicts past n o.next ≡ false → (f : Fetched) → fetching past n ≡ Some f → (s : ℕ)
    → hop (Complete actor n o ∷ past) s ≡ hop past s
hop-straight setup past legal actor n o ok straight f at s =
    elim (cases_eq n s) [
      | inl here ↦
          subst (λ z. hop (Complete actor n o ∷ past) z ≡ hop past z) here
          (hop-completed past actor n o f at
          ∙ (ap (λ z. Some (record { pc = f.pc; next = z }))
          (straight_on o.next f.predicted (sym (mispredicts-at past n o.next f at) ∙ straight))
          ∙ sym (hop-before setup past legal actor n o ok f at)))
      | inr other ↦ hop-other past actor n o s other
    ]

not_and : (a b : Bool) → b ≡ false → (a && b) ≡ false
not_and true b none = none
not_and false b none = refl

chain-straight : (setup : Setup) (past : List Event) → is_legal setup past → (actor n : ℕ) (o : Outcome)
    → (ok : refused setup past (Complete actor n o) ≡ None) → mispredicts past n o.next ≡ false → (f : Fetched)
    → fetching past n ≡ Some f → (h : ℕ)
    → Chained setup past h → Chained setup (Complete actor n o ∷ past) h
chain-straight setup past legal actor n o ok straight f at h chain =
    let e = Complete actor n o in
    let same : IsChain (hop (e ∷ past)) (live past h) (retired_pc setup past h) (fetch_pc setup past h) =
    chain-same (hop past) (hop (e ∷ past)) (live past h) (retired_pc setup past h) (fetch_pc setup past h)
    (λ s m. hop-straight setup past legal actor n o ok straight f at s) chain in
    let none : (is_of past h n && mispredicts past n o.next) ≡ false =
    not_and (is_of past h n) (mispredicts past n o.next) straight in
    let stays : fetch_pc setup (e ∷ past) h ≡ fetch_pc setup past h = rw none refl in
    subst (λ z. IsChain (hop (e ∷ past)) (live (e ∷ past) h) (retired_pc setup past h) z) (sym stays)
    (subst (λ xs. IsChain (hop (e ∷ past)) xs (retired_pc setup past h) (fetch_pc setup past h))
    (sym (live-Complete setup past legal actor n o ok straight h)) same)

chain-misprediction_own : (setup : Setup) (past : List Event) → is_legal setup past → (actor n : ℕ) (o : Outcome)
    → (ok : refused setup past (Complete actor n o) ≡ None) → mispredicts past n o.next ≡ true → (f : Fetched)
    → fetching past n ≡ Some f → (h : ℕ)
    → is_of past h n ≡ true → Chained setup past h → Chained setup (Complete actor n o ∷ past) h
chain-misprediction_own setup past legal actor n o ok mispredicted_next f at h of_n chain =
    let e = Complete actor n o in
    let old : Hop = record { pc = f.pc; next = f.predicted } in
    let new : Hop = record { pc = f.pc; next = pc_after o.next f.predicted } in
    let lives : is_live (fate past n) ≡ true = ap is_live (was-Complete setup past legal actor n o ok) in
    let shorter : IsChain (hop (e ∷ past)) (filter (λ s. nat_le s n) (live past h)) (retired_pc setup past h)
    (pc_after o.next f.predicted) =
    chain-squash (hop past) (hop (e ∷ past)) n old new (hop-before setup past legal actor n o ok f at)
    (hop-completed past actor n o f at) refl
    (λ s under. hop-other past actor n o s (λ same. absurd (omega arith))) (live past h) (retired_pc setup past h)
    (fetch_pc setup past h)
    (live-rise setup past legal h) (live-has setup past legal h n of_n lives) chain in
    let goes : fetch_pc setup (e ∷ past) h ≡ pc_after o.next (fetch_pc setup past h) =
    rw (of_n, mispredicted_next) refl in
    let sent : pc_after o.next f.predicted ≡ pc_after o.next (fetch_pc setup past h) =
    sends o.next f.predicted (fetch_pc setup past h) (sym (mispredicts-at past n o.next f at) ∙ mispredicted_next) in
    subst (λ z. IsChain (hop (e ∷ past)) (live (e ∷ past) h) (retired_pc setup past h) z) (sent ∙ sym goes)
    (subst (λ xs. IsChain (hop (e ∷ past)) xs (retired_pc setup past h) (pc_after o.next f.predicted))
    (sym (live-misprediction setup past legal actor n o ok h
    (squashing-Complete setup past legal actor n o ok mispredicted_next h of_n))) shorter)

-- Of another hart.
chain-misprediction_other : (setup : Setup) (past : List Event) → is_legal setup past → (actor n : ℕ) (o : Outcome)
    → (ok : refused setup past (Complete actor n o) ≡ None) → (g : ℕ) → is_of past g n ≡ true → (h : ℕ)
    → is_of past h n ≡ false → Chained setup past h → Chained setup (Complete actor n o ∷ past) h
chain-misprediction_other setup past legal actor n o ok g of_n h away chain =
    let e = Complete actor n o in
    let same : IsChain (hop (e ∷ past)) (live past h) (retired_pc setup past h) (fetch_pc setup past h) =
    chain-same (hop past) (hop (e ∷ past)) (live past h) (retired_pc setup past h) (fetch_pc setup past h)
    (λ s m. hop-other past actor n o s
    (λ here. absurd
    (true_false (sym (live_of setup past legal h s m) ∙ subst (λ z. is_of past h z ≡ false) here away)))) chain in
    let stays : fetch_pc setup (e ∷ past) h ≡ fetch_pc setup past h = rw away refl in
    subst (λ z. IsChain (hop (e ∷ past)) (live (e ∷ past) h) (retired_pc setup past h) z) (sym stays)
    (subst (λ xs. IsChain (hop (e ∷ past)) xs (retired_pc setup past h) (fetch_pc setup past h))
    (sym (live-elsewhere setup past legal e h refl away
    (spares_others past g h n (mispredicts past n o.next) of_n away))) same)

chain-Complete : (setup : Setup) (past : List Event) → is_legal setup past → (actor n : ℕ) (o : Outcome)
    → refused setup past (Complete actor n o) ≡ None → (h : ℕ) → Chained setup past h
    → Chained setup (Complete actor n o ∷ past) h
chain-Complete setup past legal actor n o ok h chain =
    let was = complete_was setup past (sound setup past legal) actor n o ok in
    let found = known_fetched setup past legal n (omega arith) in
    elim (cases_Bool (mispredicts past n o.next)) [
      | inr straight ↦ chain-straight setup past legal actor n o ok straight found.fetch found.fetched h chain
      | inl mispredicted_next ↦
          elim (cases_Bool (is_of past h n)) [
            | inl of_n ↦ chain-misprediction_own setup past legal actor n o ok mispredicted_next found.fetch
                found.fetched h of_n chain
            | inr away ↦ chain-misprediction_other setup past legal actor n o ok found.fetch.hart found.of_hart
                h away chain
          ]
    ]

-- ---- A retirement

-- What goes on leads to one pc, wherever it stood.
goes_to : (next : Next) (a b : ℕ) → is_last next ≡ false → pc_after next a ≡ pc_after next b
goes_to (Pc pc) a b going = refl
goes_to (Ended number) a b going = absurd (grind arith)
goes_to (Stopped cause) a b going = absurd (grind arith)

pub hop-done : (setup : Setup) (past : List Event) (n : ℕ) (x : Effect) → (done : IsDone setup past n x)
    → hop past n ≡ Some (record { pc = done.fetch.pc; next = pc_after done.outcome.next done.fetch.predicted })
hop-done setup past n x done =
    ap (λ g. hop_of g (completion past n)) done.fetched ∙ ap (hop_of (Some done.fetch)) done.completed

retired_to : (setup : Setup) (past : List Event) (actor n : ℕ) (x : Effect) (h : ℕ) → is_of past h n ≡ true
    → retired_pc setup (Retire actor n x ∷ past) h ≡ pc_after x.next (retired_pc setup past h)
retired_to setup past actor n x h of_n = rw of_n refl

chain-retired : (setup : Setup) (past : List Event) → is_legal setup past → (actor n : ℕ) (x : Effect)
    → (ok : refused setup past (Retire actor n x) ≡ None) → squashes_at_retirement past n x ≡ false
    → is_last x.next ≡ false → (h : ℕ)
    → is_of past h n ≡ true → Chained setup past h → Chained setup (Retire actor n x ∷ past) h
chain-retired setup past legal actor n x ok straight going h of_n chain =
    let e = Retire actor n x in
    let done = done-at setup past legal actor n x ok in
    let one : Hop = record { pc = done.fetch.pc; next = pc_after done.outcome.next done.fetch.predicted } in
    let split : IsChain (hop past) (n ∷ live (e ∷ past) h) (retired_pc setup past h) (fetch_pc setup past h) =
    subst (λ xs. IsChain (hop past) xs (retired_pc setup past h) (fetch_pc setup past h))
    (live-retired setup past legal actor n x ok straight going h of_n) chain in
    let rest =
    (chain-first (hop past) n (live (e ∷ past) h) one (hop-done setup past n x done) (retired_pc setup past h)
    (fetch_pc setup past h) split).1 in
    let next_same : pc_after done.outcome.next done.fetch.predicted ≡ pc_after x.next (retired_pc setup past h) =
    ap (λ z. pc_after z done.fetch.predicted) done.next
    ∙ goes_to x.next done.fetch.predicted (retired_pc setup past h) going in
    let none : (is_of past h n && squashes_at_retirement past n x) ≡ false =
    not_and (is_of past h n) (squashes_at_retirement past n x) straight in
    let stays : fetch_pc setup (e ∷ past) h ≡ fetch_pc setup past h = rw none refl in
    subst (λ z. IsChain (hop past) (live (e ∷ past) h) (retired_pc setup (e ∷ past) h) z) (sym stays)
    (subst (λ z. IsChain (hop past) (live (e ∷ past) h) z (fetch_pc setup past h))
    (next_same ∙ sym (retired_to setup past actor n x h of_n)) rest)

chain-squashes_now : (setup : Setup) (past : List Event) → is_legal setup past → (actor n : ℕ) (x : Effect)
    → (ok : refused setup past (Retire actor n x) ≡ None) → squashes_at_retirement past n x ≡ true
    → is_last x.next ≡ false → (h : ℕ)
    → is_of past h n ≡ true → Chained setup (Retire actor n x ∷ past) h
chain-squashes_now setup past legal actor n x ok squashes_now going h of_n =
    let e = Retire actor n x in
    let goes : fetch_pc setup (e ∷ past) h ≡ pc_after x.next (fetch_pc setup past h) = rw (of_n, squashes_now) refl in
    subst (λ xs. IsChain (hop (e ∷ past)) xs (retired_pc setup (e ∷ past) h) (fetch_pc setup (e ∷ past) h))
    (sym (live-squashes_now setup past legal actor n x ok squashes_now h of_n))
    (retired_to setup past actor n x h of_n
    ∙ (goes_to x.next (retired_pc setup past h) (fetch_pc setup past h) going ∙ sym goes))

chain-Retire_other : (setup : Setup) (past : List Event) → is_legal setup past → (actor n : ℕ) (x : Effect)
    → (g : ℕ) → is_of past g n ≡ true → (h : ℕ) → is_of past h n ≡ false → Chained setup past h
    → Chained setup (Retire actor n x ∷ past) h
chain-Retire_other setup past legal actor n x g of_n h away chain =
    let e = Retire actor n x in
    let stays : fetch_pc setup (e ∷ past) h ≡ fetch_pc setup past h = rw away refl in
    let stands : retired_pc setup (e ∷ past) h ≡ retired_pc setup past h = rw away refl in
    subst (λ z. IsChain (hop past) (live (e ∷ past) h) (retired_pc setup (e ∷ past) h) z) (sym stays)
    (subst (λ z. IsChain (hop past) (live (e ∷ past) h) z (fetch_pc setup past h)) (sym stands)
    (subst (λ xs. IsChain (hop past) xs (retired_pc setup past h) (fetch_pc setup past h))
    (sym (live-elsewhere setup past legal e h refl away
    (spares_others past g h n (squashes_at_retirement past n x) of_n away))) chain))

-- ---- Every legal history

-- An end or a stop leaves no hart going.
ends : (next : Next) (before : Status) → is_last next ≡ true → is_going_status (status_after next before) ≡ false
ends (Pc pc) before last = absurd (grind arith)
ends (Ended number) before last = refl
ends (Stopped cause) before last = refl

goes_still : (past : List Event) (actor n : ℕ) (x : Effect) (h : ℕ) → is_of past h n ≡ true
    → is_going (Retire actor n x ∷ past) h ≡ true
    → is_last x.next ≡ false
goes_still past actor n x h of_n going =
    false_from_ne_true (is_last x.next) (λ last.
    let now : is_going (Retire actor n x ∷ past) h ≡ false = rw of_n (ends x.next (status past h) last) in
    absurd (true_false (sym going ∙ now)))

goes_before : (next : Next) (before : Status) → is_going_status (status_after next before) ≡ true
    → is_going_status before ≡ true
goes_before (Pc pc) before going = going
goes_before (Ended number) before going = absurd (grind arith)
goes_before (Stopped cause) before going = absurd (grind arith)

went : (past : List Event) (actor n : ℕ) (x : Effect) (h : ℕ) → is_going (Retire actor n x ∷ past) h ≡ true
    → is_going past h ≡ true
went past actor n x h going =
    elim (cases_Bool (is_of past h n)) [
      | inl of_n ↦ goes_before x.next (status past h) (rw of_n at going)
      | inr away ↦ rw away at going
    ]

chain-Retire : (setup : Setup) (past : List Event) → is_legal setup past → (actor n : ℕ) (x : Effect)
    → (ok : refused setup past (Retire actor n x) ≡ None) → (h : ℕ) → is_going (Retire actor n x ∷ past) h ≡ true
    → Chained setup past h
    → Chained setup (Retire actor n x ∷ past) h
chain-Retire setup past legal actor n x ok h going chain =
    elim (cases_Bool (is_of past h n)) [
      | inl of_n ↦
          let goes_on = goes_still past actor n x h of_n going in
          elim (cases_Bool (squashes_at_retirement past n x)) [
            | inl squashes_now ↦ chain-squashes_now setup past legal actor n x ok squashes_now goes_on h of_n
            | inr straight ↦ chain-retired setup past legal actor n x ok straight goes_on h of_n chain
          ]
      | inr away ↦
          let done = done-at setup past legal actor n x ok in
          chain-Retire_other setup past legal actor n x done.fetch.hart done.of_hart h away chain
    ]

chain-quiet : (setup : Setup) (past : List Event) (h : ℕ) (xs : List ℕ) → xs ≡ live past h → Chained setup past h
    → IsChain (hop past) xs (retired_pc setup past h) (fetch_pc setup past h)
chain-quiet setup past h xs same chain =
    subst (λ ys. IsChain (hop past) ys (retired_pc setup past h) (fetch_pc setup past h)) (sym same) chain

-- The law.
pub chained : FollowsTheProgram
chained setup [] legal h going = refl
chained setup (Fetch actor hart n pc word predicted ∷ past) legal h going =
    elim (cases_Bool (hart == h)) [
      | inl mine ↦
          let here : hart ≡ h = grind (arith, nat_tests) in
          subst (λ z. Chained setup (Fetch actor hart n pc word predicted ∷ past) z) here
          (chain-Fetch_own setup past legal.1 actor hart n pc word predicted legal.0
          (subst (λ z. Chained setup past z) (sym here) (chained setup past legal.1 h going)))
      | inr other ↦
          chain-Fetch_other setup past legal.1 actor hart n pc word predicted legal.0 h other
          (chained setup past legal.1 h going)
    ]
chained setup (Decode actor n ∷ past) legal h going =
    chain-quiet setup past h (live (Decode actor n ∷ past) h) (live-Decode setup past actor n legal.0 h)
    (chained setup past legal.1 h going)
chained setup (Rename actor n register ∷ past) legal h going =
    chain-quiet setup past h (live (Rename actor n register ∷ past) h)
    (live-Rename setup past actor n register legal.0 h)
    (chained setup past legal.1 h going)
chained setup (Issue actor n ∷ past) legal h going =
    chain-quiet setup past h (live (Issue actor n ∷ past) h) (live-Issue setup past actor n legal.0 h)
    (chained setup past legal.1 h going)
chained setup (Complete actor n o ∷ past) legal h going =
    chain-Complete setup past legal.1 actor n o legal.0 h (chained setup past legal.1 h going)
chained setup (Drop actor n ∷ past) legal h going =
    chain-quiet setup past h (live (Drop actor n ∷ past) h) (live-Drop past actor n h)
    (chained setup past legal.1 h going)
chained setup (Retire actor n x ∷ past) legal h going =
    chain-Retire setup past legal.1 actor n x legal.0 h going
    (chained setup past legal.1 h (went past actor n x h going))
chained setup (Refetch actor n ∷ past) legal h going =
    chain-Refetch setup past legal.1 actor n legal.0 h (chained setup past legal.1 h going)
