-- A refetch is of the oldest that its hart has on its way, and leaves it nothing there. So the chain ends where it
-- begins: at the pc of the refetched instruction.
use Rattle.std.specs.Prelude.{◌≡◌, ℕ, ◌<◌, true, false, ◌==◌, List, ◌∷◌}
use Rattle.std.specs.Prelude.{Some, None}
use Rattle.std.proofs.Common.{◌∙◌, refl, sym, ap, subst, inl, inr, arith}
use Rattle.std.proofs.{lemmas.Bool.cases_Bool, lemmas.Bool.Decides.nat_tests}
use Rattle.events.specs.{declared.event.Event.Event, declared.event.Event.TheVariants.Refetch}
use Rattle.smt_model.specs.{Basics.first, Setup.Setup, Flights.numbers, Flights.flight, Flights.live}
use Rattle.smt_model.specs.{Fetching.fetch_pc, Fetching.refetch_pc, Rules.refused, Rules.is_legal}
use Rattle.smt_model.specs.Fates.{Fetched, fate, fetching, completion, is_live, is_of}
use Rattle.smt_model.proofs.{Allowed.refetch_allowed, Fates.Moves.refetch_was}
use Rattle.smt_model.proofs.Fates.Numbers.{first_of_hart, is_of-is, known_fetched, numbers-of, numbers-member}
use Rattle.smt_model.proofs.Fates.Numbers.{numbers-rise}
use Rattle.smt_laws.proofs.{Fates.Order.in_order, Events.Emptying.none_before, Live.live-Refetch}
use Rattle.smt_laws.proofs.{Live.live-Refetch_other, Paths.least_first}
use Rattle.smt_laws.proofs.{Paths.Chained, Paths.chain-front}
use Rattle.smt_laws.specs.{Sequential.retired_pc, Chain.Hop, Chain.hop_of, Chain.hop, Chain.IsChain, Chain.following_pc}

-- No older one of its hart is on its way.
older_gone : (setup : Setup) (past : List Event) → is_legal setup past → (actor n : ℕ)
    → refused setup past (Refetch actor n) ≡ None → (h s : ℕ) → is_of past h n ≡ true → is_of past h s ≡ true → s < n
    → is_live (fate past s) ≡ false
older_gone setup past legal actor n ok h s of_n of_s under =
    let at = refetch_was setup past actor n ok in
    let front = first_of_hart past (flight past) h n of_n (refetch_allowed setup past actor n ok).oldest in
    let passed = none_before setup past legal h n s front of_s under in
    let order = in_order setup past legal h s n of_s of_n under (λ gone. absurd (omega arith)) in
    grind (arith, nat_tests)

pub refetched-front : (setup : Setup) (past : List Event) → is_legal setup past → (actor n : ℕ)
    → refused setup past (Refetch actor n) ≡ None → (h : ℕ) → is_of past h n ≡ true → first (live past h) ≡ Some n
refetched-front setup past legal actor n ok h of_n =
    let at = refetch_was setup past actor n ok in
    least_first (λ s. is_live (fate past s)) n (numbers past h) (numbers-rise setup past legal h)
    (numbers-member setup past legal h n of_n) (grind (arith, nat_tests))
    (λ s m under. older_gone setup past legal actor n ok h s of_n (numbers-of setup past legal h s m) under)

-- ---- The chain

-- The path begins at the refetched instruction's pc, and that is where its hart fetches next.
chain-Refetch_own : (setup : Setup) (past : List Event) → is_legal setup past → (actor n : ℕ)
    → refused setup past (Refetch actor n) ≡ None → (f : Fetched) → fetching past n ≡ Some f
    → is_of past f.hart n ≡ true → Chained setup past f.hart → Chained setup (Refetch actor n ∷ past) f.hart
chain-Refetch_own setup past legal actor n ok f at of_n chain =
    let e = Refetch actor n in
    let h = f.hart in
    let one : Hop = record { pc = f.pc; next = following_pc (completion past n) f.predicted } in
    let front : f.pc ≡ retired_pc setup past h =
    chain-front (hop past) (live past h) n one (refetched-front setup past legal actor n ok h of_n)
    (ap (λ o. hop_of o (completion past n)) at) (retired_pc setup past h) (fetch_pc setup past h) chain in
    let own : (h == h) ≡ true = grind (arith, nat_tests) in
    let mine : refetch_pc (Some f) h (fetch_pc setup past h) ≡ f.pc = rw own refl in
    let goes : fetch_pc setup (e ∷ past) h ≡ f.pc = ap (λ o. refetch_pc o h (fetch_pc setup past h)) at ∙ mine in
    subst (λ xs. IsChain (hop past) xs (retired_pc setup past h) (fetch_pc setup (e ∷ past) h))
    (sym (live-Refetch setup past legal actor n ok h of_n)) (sym front ∙ sym goes)

chain-Refetch_other : (setup : Setup) (past : List Event) → is_legal setup past → (actor n : ℕ) (f : Fetched)
    → fetching past n ≡ Some f → is_of past f.hart n ≡ true → (h : ℕ) → (f.hart == h) ≡ false → Chained setup past h
    → Chained setup (Refetch actor n ∷ past) h
chain-Refetch_other setup past legal actor n f at of_n h apart chain =
    let e = Refetch actor n in
    let away : is_of past h n ≡ false = is_of-is past f.hart h n of_n ∙ apart in
    let other : refetch_pc (Some f) h (fetch_pc setup past h) ≡ fetch_pc setup past h = rw apart refl in
    let stays : fetch_pc setup (e ∷ past) h ≡ fetch_pc setup past h =
    ap (λ o. refetch_pc o h (fetch_pc setup past h)) at ∙ other in
    subst (λ z. IsChain (hop past) (live (e ∷ past) h) (retired_pc setup past h) z) (sym stays)
    (subst (λ xs. IsChain (hop past) xs (retired_pc setup past h) (fetch_pc setup past h))
    (sym (live-Refetch_other setup past legal actor n f.hart h of_n away)) chain)

pub chain-Refetch : (setup : Setup) (past : List Event) → is_legal setup past → (actor n : ℕ)
    → refused setup past (Refetch actor n) ≡ None → (h : ℕ) → Chained setup past h
    → Chained setup (Refetch actor n ∷ past) h
chain-Refetch setup past legal actor n ok h chain =
    let was = refetch_was setup past actor n ok in
    let found = known_fetched setup past legal n (omega arith) in
    let f = found.fetch in
    elim (cases_Bool (f.hart == h)) [
      | inl mine ↦
          let here : f.hart ≡ h = grind (arith, nat_tests) in
          subst (Chained setup (Refetch actor n ∷ past)) here
          (chain-Refetch_own setup past legal actor n ok f found.fetched found.of_hart
          (subst (Chained setup past) (sym here) chain))
      | inr apart ↦ chain-Refetch_other setup past legal actor n f found.fetched found.of_hart h apart chain
    ]
