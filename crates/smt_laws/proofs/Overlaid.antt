-- The number of an untouched load is that of memory with some stores over it, in order: those that its first look saw
-- and that are still in flight.
use Rattle.std.specs.Prelude.{◌≡◌, ◌≢◌, ℕ, ◌<◌, ◌≤◌, Bool, true, false, ◌==◌, ◌||◌}
use Rattle.std.specs.Prelude.{List, [], ◌∷◌, filter, Option, Some, None}
use Rattle.std.proofs.Common.{◌∙◌, refl, sym, ap, subst, inl, inr, arith}
use Rattle.std.proofs.{lemmas.Bool.cases_eq, lemmas.Bool.Decides.nat_tests}
use Rattle.rv_instr.specs.declared.op.Op.{Op}
use Rattle.events.specs.{declared.effect.Outcome.Outcome, declared.effect.Effect.Effect}
use Rattle.events.specs.{declared.event.Event.Event}
use Rattle.events.specs.declared.event.Event.TheVariants.{Fetch, Decode, Rename, Issue, Complete, Drop, Retire, Refetch}
use Rattle.smt_model.specs.{Basics.or_zero, Setup.Setup}
use Rattle.smt_model.specs.{Registers.resulting}
use Rattle.smt_model.specs.{Outcomes.outcome_of}
use Rattle.smt_model.specs.{Bytes.read}
use Rattle.smt_model.specs.{Memory.byte_at, Flights.numbers}
use Rattle.smt_model.specs.Kinds.{kind_of}
use Rattle.smt_model.specs.Kinds.{is_loading, is_storing}
use Rattle.smt_model.specs.Fates.{Completed, Fetched, stage, fate, is_of, op_at, fetching}
use Rattle.smt_model.specs.Fates.{op_of_fetched, completion, fate_by, squashes}
use Rattle.smt_model.specs.Looks.{is_forwarded, overlaid_byte, seen_byte, first_look}
use Rattle.smt_model.specs.Touched.{accessed, touches_access, is_touched}
use Rattle.smt_model.specs.Rules.{refused, is_legal, computed_at}
use Rattle.smt_model.proofs.Lists.{member, member-filter, Each-at, Each-all, Rises-filter}
use Rattle.smt_model.proofs.{Fates.Sound.sound}
use Rattle.smt_model.proofs.Fates.Moves.{complete_was, stage_of, fate-kept}
use Rattle.smt_model.proofs.Fates.Moves.{retire_was, stage-retired_as}
use Rattle.smt_model.proofs.Fates.Numbers.{known_below, known_fetched, is_of-one, is_of-kept, op_at-kept, numbers-of, numbers-rise}
use Rattle.smt_laws.proofs.{Registers.Namings.completion-kept}
use Rattle.smt_laws.proofs.Registers.Values.{complete_says, completed-is, completes}
use Rattle.smt_laws.proofs.{Agreeing.read-same, Done.some_one}
use Rattle.smt_laws.proofs.Overlays.{IsOverlaid, IsSeen, IsUntouched, overlaid-kept, overlaid-retired, overlay-same}
use Rattle.smt_laws.proofs.Overlays.{says_a_look, stored-kept, tells_nothing}

-- ---- As the load completes

-- It squashes no older one.
spares-older : (past : List Event) (actor s : ℕ) (o : Outcome) (x : ℕ) → x < s
    → squashes (Complete actor s o) past x ≡ false
spares-older past actor s o x older = grind (arith, nat_tests)

seen-now : (setup : Setup) (past : List Event) → is_legal setup past → (actor s : ℕ) (o : Outcome)
    → refused setup past (Complete actor s o) ≡ None
    → (h x : ℕ) → IsSeen past h s x → IsSeen (Complete actor s o ∷ past) h s x
seen-now setup past legal actor s o ok h x seen =
    let e = Complete actor s o in
    let known : 1 ≤ stage (fate past x) = (let five = seen.completed in omega arith) in
    let under = known_below setup past legal x known in
    let above = seen.older in
    let tells : fate_by e x ≡ None = grind (arith, nat_tests) in
    let same = fate-kept e past x tells (spares-older past actor s o x above) in
    record {
      of_hart = is_of-kept setup past legal e ok h x under ∙ seen.of_hart;
      older = seen.older;
      storing = ap (λ p. is_storing (kind_of p)) (op_at-kept setup past legal e ok x under) ∙ seen.storing;
      completed = ap stage same ∙ seen.completed;
    }

overlaid-now : (setup : Setup) (past : List Event) → is_legal setup past → (actor s : ℕ) (o : Outcome)
    → refused setup past (Complete actor s o) ≡ None
    → (f : Fetched) → fetching past s ≡ Some f → is_loading (kind_of (op_of_fetched (Some f))) ≡ true
    → (v : ℕ) → o.value ≡ Some v
    → IsOverlaid setup (Complete actor s o ∷ past) f.hart s (op_of_fetched (Some f)) (or_zero o.addr) v
unfolding first_look
overlaid-now setup past legal actor s o ok f found loads v some =
    let e = Complete actor s o in
    let h = f.hart in
    let op = op_of_fetched (Some f) in
    let c = computed_at setup past s f in
    let xs = filter (is_forwarded past s) (numbers past h) in
    let says = says_a_look op c (first_look setup past h s op c.addr) o v loads
    (complete_says setup past actor s o ok f found) some in
    let inside : (x : ℕ) → member x xs ≡ true → IsSeen past h s x = λ x m.
    let parts = member-filter (is_forwarded past s) x (numbers past h) m in
    record {
      of_hart = numbers-of setup past legal h x parts.0;
      older = (let passes = parts.1 in grind (arith, nat_tests));
      storing = (let passes = parts.1 in grind (arith, nat_tests));
      completed = stage_of (fate past x) Completed (let passes = parts.1 in grind (arith, nat_tests));
    } in
    let stays : (x : ℕ) → member x xs ≡ true → IsSeen (e ∷ past) h s x =
    λ x m. seen-now setup past legal actor s o ok h x (inside x m) in
    record {
      stores = xs;
      rises = Rises-filter (is_forwarded past s) (numbers past h) (numbers-rise setup past legal h);
      seen = Each-all (IsSeen (e ∷ past) h s) xs stays;
      value =
          read-same (λ b. overlaid_byte (e ∷ past) b xs (byte_at setup past b)) (seen_byte setup past h s)
          (λ b. overlay-same past (e ∷ past) b xs
          (λ x m. stored-kept setup past legal e ok x (inside x m).completed) (byte_at setup past b)) op (or_zero o.addr)
          ∙ (ap (λ a. read op (seen_byte setup past h s) (or_zero a)) says.addr ∙ says.number);
    }

-- ---- The law

-- What is completed as one event comes and was before it.
untouched-before : (setup : Setup) (past : List Event) → is_legal setup past → (e : Event)
    → refused setup past e ≡ None → (h s : ℕ) (op : Op) (o : Outcome) (v : ℕ)
    → IsUntouched (e ∷ past) h s op o v → stage (fate past s) ≡ 5 → is_touched past s ≡ false
    → IsUntouched past h s op o v
untouched-before setup past legal e ok h s op o v now was untouched =
    let under = known_below setup past legal s (omega arith) in
    record {
      of_hart = sym (is_of-kept setup past legal e ok h s under) ∙ now.of_hart;
      completed = was;
      is_op = sym (op_at-kept setup past legal e ok s under) ∙ now.is_op;
      loading = now.loading;
      said = sym (completion-kept setup past legal e ok s (λ four. absurd (omega arith))) ∙ now.said;
      value = now.value;
      untouched = untouched;
    }

-- An event that is no retirement, and of which the load isn't the one that completes.
overlaid-on : (setup : Setup) (past : List Event) → is_legal setup past → (e : Event)
    → refused setup past e ≡ None → (h s : ℕ) (op : Op) (o : Outcome) (v : ℕ)
    → IsUntouched (e ∷ past) h s op o v → stage (fate past s) ≡ 5
    → ((b : ℕ) → byte_at setup (e ∷ past) b ≡ byte_at setup past b)
    → ((actor n : ℕ) (effect : Effect) → e ≡ Retire actor n effect → ⊥)
    → IsOverlaid setup past h s op (or_zero o.addr) v → IsOverlaid setup (e ∷ past) h s op (or_zero o.addr) v
overlaid-on setup past legal e ok h s op o v now was bytes no_retirement before =
    let under = known_below setup past legal s (omega arith) in
    overlaid-kept setup past legal e ok h s op (or_zero o.addr) v
    (sym (is_of-kept setup past legal e ok h s under) ∙ now.of_hart) was now.completed (λ b low high. bytes b) before
    (λ x m. tells_nothing setup past legal e ok x
    (Each-at (IsSeen past h s) before.stores before.seen x m).completed (λ actor effect same.
    no_retirement actor x effect same))

said_now : (past : List Event) (actor n : ℕ) (outcome : Outcome) (s : ℕ) (o : Outcome) → n ≡ s
    → completion (Complete actor n outcome ∷ past) s ≡ Some o → outcome ≡ o
said_now past actor n outcome s o here said =
    let same : (n == s) ≡ true = grind (arith, nat_tests) in some_one outcome o (rw same at said)

overlaid-completes : (setup : Setup) (past : List Event) → is_legal setup past → (actor s : ℕ) (o : Outcome)
    → refused setup past (Complete actor s o) ≡ None
    → (h : ℕ) (op : Op) (v : ℕ) → is_of past h s ≡ true → op_at past s ≡ op → is_loading (kind_of op) ≡ true
    → o.value ≡ Some v → IsOverlaid setup (Complete actor s o ∷ past) h s op (or_zero o.addr) v
overlaid-completes setup past legal actor s o ok h op v of_s is_op loads some =
    let e = Complete actor s o in
    let was = complete_was setup past (sound setup past legal) actor s o ok in
    let found = known_fetched setup past legal s (omega arith) in
    let f = found.fetch in
    let same_hart : f.hart ≡ h = is_of-one past f.hart h s found.of_hart of_s in
    let same_op : op_of_fetched (Some f) ≡ op = sym (ap op_of_fetched found.fetched) ∙ is_op in
    subst (λ g. IsOverlaid setup (e ∷ past) g s op (or_zero o.addr) v) same_hart
    (subst (λ p. IsOverlaid setup (e ∷ past) f.hart s p (or_zero o.addr) v) same_op
    (overlaid-now setup past legal actor s o ok f found.fetched (ap (λ p. is_loading (kind_of p)) same_op ∙ loads) v
    some))

-- What a completed instruction said is computed of its operands.
pub record IsComputed (setup : Setup) (past : List Event) (s : ℕ) (f : Fetched) (o : Outcome) : Type 0 where
  pub look : ℕ
  pub outcome_is : o ≡ outcome_of (op_of_fetched (Some f)) (computed_at setup past s f) (Some look)

pub is_computed : (setup : Setup) (past : List Event) → is_legal setup past → (s : ℕ) (f : Fetched) (o : Outcome)
    → fetching past s ≡ Some f → stage (fate past s) ≡ 5 → completion past s ≡ Some o → IsComputed setup past s f o
is_computed setup past legal s f o found at said =
    let done = completed-is setup past legal s at in
    let same_f : done.fetch ≡ f = some_one done.fetch f (sym done.fetched ∙ found) in
    let same_o : o ≡ done.outcome = some_one o done.outcome (sym said ∙ done.completed) in
    record {
      look = done.look;
      outcome_is = same_o
          ∙ (done.outcome_is
          ∙ ap (λ g. outcome_of (op_of_fetched (Some g)) (computed_at setup past s g) (Some done.look)) same_f);
    }

there : (a : Option ℕ) (n : ℕ) → a ≡ Some n → a ≡ Some (or_zero a)
there a n at = at ∙ ap Some (sym (ap or_zero at))

addressed : (setup : Setup) (past : List Event) → is_legal setup past → (h s : ℕ) (op : Op) (o : Outcome) (v : ℕ)
    → IsUntouched past h s op o v → o.addr ≡ Some (or_zero o.addr)
addressed setup past legal h s op o v now =
    let found = known_fetched setup past legal s (let at = now.completed in omega arith) in
    let f = found.fetch in
    let made = is_computed setup past legal s f o found.fetched now.completed now.said in
    let same_op : op_of_fetched (Some f) ≡ op = sym (ap op_of_fetched found.fetched) ∙ now.is_op in
    let says = says_a_look (op_of_fetched (Some f)) (computed_at setup past s f) made.look o v
    (ap (λ p. is_loading (kind_of p)) same_op ∙ now.loading) made.outcome_is now.value in
    there o.addr (computed_at setup past s f).addr says.addr

untouched_both : (a b : Bool) → (a || b) ≡ false → (a ≡ false) × (b ≡ false)
untouched_both true b none = absurd (grind arith)
untouched_both false b none = (refl, none)

-- A retirement that leaves it untouched.
overlaid-retire : (setup : Setup) (past : List Event) → is_legal setup past → (actor n : ℕ) (x : Effect)
    → refused setup past (Retire actor n x) ≡ None → (h s : ℕ) (op : Op) (o : Outcome) (v : ℕ)
    → IsUntouched past h s op o v → stage (fate (Retire actor n x ∷ past) s) ≡ 5
    → touches_access x.write (op_at past s) (accessed (completion past s)) ≡ false
    → IsOverlaid setup past h s op (or_zero o.addr) v
    → IsOverlaid setup (Retire actor n x ∷ past) h s op (or_zero o.addr) v
overlaid-retire setup past legal actor n x ok h s op o v was now apart before =
    let at : accessed (completion past s) ≡ Some (or_zero o.addr) =
    ap accessed was.said ∙ addressed setup past legal h s op o v was in
    let leaves : touches_access x.write op (Some (or_zero o.addr)) ≡ false =
    ap (λ p. touches_access x.write p (Some (or_zero o.addr))) (sym was.is_op)
    ∙ (ap (touches_access x.write (op_at past s)) (sym at) ∙ apart) in
    overlaid-retired setup past legal actor n x ok h s op (or_zero o.addr) v was.of_hart was.completed now leaves
    before.stores before.rises before.seen before.value

-- The invariant: an untouched load's number is that of memory, with the stores over it that its first look saw and that
-- are still in flight.
pub overlaid : (setup : Setup) (past : List Event) → is_legal setup past → (h s : ℕ) (op : Op) (o : Outcome) (v : ℕ)
    → IsUntouched past h s op o v → IsOverlaid setup past h s op (or_zero o.addr) v
overlaid setup [] legal h s op o v now = absurd (let at = now.completed in grind arith)
overlaid setup (Fetch actor hart n pc word predicted ∷ past) legal h s op o v now =
    let e = Fetch actor hart n pc word predicted in
    let was = completes setup past legal.1 e legal.0 s now.completed refl in
    overlaid-on setup past legal.1 e legal.0 h s op o v now was (λ b. refl) (λ k m x same. absurd (grind arith))
    (overlaid setup past legal.1 h s op o v
    (untouched-before setup past legal.1 e legal.0 h s op o v now was now.untouched))
overlaid setup (Decode actor n ∷ past) legal h s op o v now =
    let e = Decode actor n in
    let was = completes setup past legal.1 e legal.0 s now.completed refl in
    overlaid-on setup past legal.1 e legal.0 h s op o v now was (λ b. refl) (λ k m x same. absurd (grind arith))
    (overlaid setup past legal.1 h s op o v
    (untouched-before setup past legal.1 e legal.0 h s op o v now was now.untouched))
overlaid setup (Rename actor n register ∷ past) legal h s op o v now =
    let e = Rename actor n register in
    let was = completes setup past legal.1 e legal.0 s now.completed refl in
    overlaid-on setup past legal.1 e legal.0 h s op o v now was (λ b. refl) (λ k m x same. absurd (grind arith))
    (overlaid setup past legal.1 h s op o v
    (untouched-before setup past legal.1 e legal.0 h s op o v now was now.untouched))
overlaid setup (Issue actor n ∷ past) legal h s op o v now =
    let e = Issue actor n in
    let was = completes setup past legal.1 e legal.0 s now.completed refl in
    overlaid-on setup past legal.1 e legal.0 h s op o v now was (λ b. refl) (λ k m x same. absurd (grind arith))
    (overlaid setup past legal.1 h s op o v
    (untouched-before setup past legal.1 e legal.0 h s op o v now was now.untouched))
overlaid setup (Complete actor n outcome ∷ past) legal h s op o v now =
    let e = Complete actor n outcome in
    elim (cases_eq n s) [
      | inl here ↦
          let same : outcome ≡ o = said_now past actor n outcome s o here now.said in
          let ok : refused setup past (Complete actor s o) ≡ None =
          subst (λ z. refused setup past (Complete actor s z) ≡ None) same
          (subst (λ z. refused setup past (Complete actor z outcome) ≡ None) here legal.0) in
          subst (λ z. IsOverlaid setup (Complete actor n z ∷ past) h s op (or_zero o.addr) v) (sym same)
          (subst (λ z. IsOverlaid setup (Complete actor z o ∷ past) h s op (or_zero o.addr) v) (sym here)
          (overlaid-completes setup past legal.1 actor s o ok h op v now.of_hart now.is_op now.loading now.value))
      | inr other ↦
          let quiet : resulting e s ≡ None = grind (arith, nat_tests) in
          let was = completes setup past legal.1 e legal.0 s now.completed quiet in
          overlaid-on setup past legal.1 e legal.0 h s op o v now was (λ b. refl) (λ k m x same. absurd (grind arith))
          (overlaid setup past legal.1 h s op o v
          (untouched-before setup past legal.1 e legal.0 h s op o v now was now.untouched))
    ]
overlaid setup (Drop actor n ∷ past) legal h s op o v now =
    let e = Drop actor n in
    let was = completes setup past legal.1 e legal.0 s now.completed refl in
    overlaid-on setup past legal.1 e legal.0 h s op o v now was (λ b. refl) (λ k m x same. absurd (grind arith))
    (overlaid setup past legal.1 h s op o v
    (untouched-before setup past legal.1 e legal.0 h s op o v now was now.untouched))
overlaid setup (Refetch actor n ∷ past) legal h s op o v now =
    let e = Refetch actor n in
    let was = completes setup past legal.1 e legal.0 s now.completed refl in
    overlaid-on setup past legal.1 e legal.0 h s op o v now was (λ b. refl) (λ k m x same. absurd (grind arith))
    (overlaid setup past legal.1 h s op o v
    (untouched-before setup past legal.1 e legal.0 h s op o v now was now.untouched))
overlaid setup (Retire actor n x ∷ past) legal h s op o v now =
    let e = Retire actor n x in
    let at = retire_was setup past actor n x legal.0 in
    let as_told = stage-retired_as x in
    let still = now.completed in
    let other : n ≢ s = λ here. absurd (grind (arith, nat_tests)) in
    let quiet : resulting e s ≡ None = grind (arith, nat_tests) in
    let was = completes setup past legal.1 e legal.0 s now.completed quiet in
    let both = untouched_both (is_touched past s) (touches_access x.write (op_at past s) (accessed (completion past s)))
    now.untouched in
    let before = untouched-before setup past legal.1 e legal.0 h s op o v now was both.0 in
    overlaid-retire setup past legal.1 actor n x legal.0 h s op o v before now.completed both.1
    (overlaid setup past legal.1 h s op o v before)
