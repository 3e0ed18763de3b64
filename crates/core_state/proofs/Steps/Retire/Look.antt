-- A retirement that looks at memory again: the effect that the rules want may come next, and what it changes by the
-- tests of its end and of its second look.
use Rattle.std.specs.Prelude.{◌≡◌, ℕ, ◌≤◌, Bool, true, false, List, ◌∷◌, Option, Some, None, zero, suc, ◌+◌}
use Rattle.std.specs.Prelude.{◌*◌, ◌^◌}
use Rattle.std.proofs.Common.{◌∙◌, refl, sym, ap, arith}
use Rattle.std.proofs.{lemmas.Bool.Decides.nat_tests}
use Rattle.numbers.specs.Sizes.{most_registers}
use Rattle.rv_instr.specs.declared.op.Op.{Op}
use Rattle.events.specs.{declared.effect.Next.Next, declared.effect.Next.TheVariants.Pc}
use Rattle.events.specs.{declared.effect.Next.TheVariants.Ended, declared.effect.Next.TheVariants.Stopped}
use Rattle.events.specs.{declared.effect.Effect.Effect, declared.effect.Outcome.Outcome}
use Rattle.events.specs.{declared.effect.Written.Written, declared.event.Event.Event}
use Rattle.events.specs.declared.event.Event.TheVariants.{Retire}
use Rattle.retire_squash.specs.declared.active.Active.{Active}
use Rattle.smt_model.specs.{Basics.same_number, Setup.Setup, Setup.registers_of, Nexts.is_last, Nexts.pc_after}
use Rattle.smt_model.specs.{Kinds.access_size, Effects.effect_of}
use Rattle.smt_model.specs.{Bytes.number_at, Bytes.read, Bytes.read_value, Picture.picture}
use Rattle.smt_model.specs.{Reservations.holds_word, Memory.byte_at, Memory.reserved, Fetching.fetch_pc}
use Rattle.smt_model.specs.{Flights.flight, Jobs.is_actor, Steps.IsRetire, Steps.IsReplay, Steps.IsEnd}
use Rattle.smt_model.specs.{Comparisons.same_next, Comparisons.same_write, Comparisons.same_effect}
use Rattle.smt_model.specs.Fates.{Fetched, Completed, fetching, is, is_of, is_replayed, op_of_fetched}
use Rattle.smt_model.specs.Fates.{squashes_at_retirement}
use Rattle.smt_model.specs.Rules.{computed_at, effect_now, is_first, is_fresh, is_legal, of_fetched, refused}
use Rattle.smt_model.proofs.{Allowed.retire_allows, Fates.Moves.same_number-self}
use Rattle.smt_laws.proofs.Steps.End.{steps-End}
use Rattle.smt_laws.proofs.{Steps.Retire.steps-Retire, Steps.Replay.steps-Replay}
use Rattle.core_steps.specs.Retirement.{CanRetire}

-- ---- What is read of two memories with the same bytes

number-same : (f g : ℕ → ℕ) → ((a : ℕ) → f a ≡ g a) → (addr n : ℕ) → number_at f addr n ≡ number_at g addr n
number-same f g same addr zero = refl
number-same f g same addr (suc n) =
    ap (λ x. x + 2 ^ 8 * number_at f (addr + 1) n) (same addr)
    ∙ ap (λ x. g addr + 2 ^ 8 * x) (number-same f g same (addr + 1) n)

pub read-same : (f g : ℕ → ℕ) → ((a : ℕ) → f a ≡ g a) → (op : Op) (addr : ℕ) → read op f addr ≡ read op g addr
read-same f g same op addr = ap (read_value op) (number-same f g same addr (access_size op))

-- The effect that the rules want, by any memory and reservation that are the history's.
pub effect-same : (setup : Setup) (past : List Event) (s : ℕ) (f : Fetched) (bytes : ℕ → ℕ) (held : Option ℕ)
    → ((a : ℕ) → bytes a ≡ byte_at setup past a) → held ≡ reserved past f.hart
    → let op = op_of_fetched (Some f) in let c = computed_at setup past s f in
    effect_of op c (read op bytes c.addr) (holds_word held c.addr) ≡ effect_now setup past s f
effect-same setup past s f bytes held same reserves =
    let op = op_of_fetched (Some f) in
    let c = computed_at setup past s f in
    ap (λ now. effect_of op c now (holds_word held c.addr)) (read-same bytes (byte_at setup past) same op c.addr)
    ∙ ap (λ r. effect_of op c (read op (byte_at setup past) c.addr) (holds_word r c.addr)) reserves

-- ---- It is allowed

same_next-self : (n : Next) → same_next n n ≡ true
same_next-self (Pc pc) = grind (arith, nat_tests)
same_next-self (Ended status) = grind (arith, nat_tests)
same_next-self (Stopped cause) = grind (arith, nat_tests)

same_write-self : (w : Option Written) → same_write w w ≡ true
same_write-self None = refl
same_write-self (Some w) = grind (arith, nat_tests)

pub same_effect-self : (x : Effect) → same_effect x x ≡ true
same_effect-self x =
    rw (same_number-self x.value, same_next-self x.next, same_write-self x.write, same_number-self x.out) refl

pub at_fetched : (past : List Event) (s : ℕ) (test : Fetched → Bool) (f : Fetched) → fetching past s ≡ Some f
    → test f ≡ true
    → of_fetched past s test ≡ true
at_fetched past s test f at holds = rw at holds

-- As it was fetched.
abbrev pub fetched_of : ℕ → Active → Fetched
fetched_of h x = record { hart = h; pc = x.pc; word = x.word; predicted = x.predicted }

pub oldest_in : (setup : Setup) (past : List Event) (h : ℕ) (x : Active) (o : Outcome)
    → CanRetire (picture setup past) h x o
    → of_fetched past x.seq (λ f. is_first x.seq (flight past f.hart)) ≡ true
oldest_in setup past h x o can =
    at_fetched past x.seq (λ g. is_first x.seq (flight past g.hart)) (fetched_of h x) can.is_active.fetched
    (ap (λ y. same_number y (Some x.seq)) can.oldest ∙ same_number-self (Some x.seq))

-- The oldest of a hart, where it is completed and memory has its word still, retires with what it does now.
pub retires_now : (setup : Setup) (past : List Event) (actor h : ℕ) → is_actor setup actor ≡ true
    → (x : Active) (o : Outcome) (effect : Effect) → CanRetire (picture setup past) h x o
    → is_fresh setup past (fetched_of h x) ≡ true → effect ≡ effect_now setup past x.seq (fetched_of h x)
    → refused setup past (Retire actor x.seq effect) ≡ None
retires_now setup past actor h there x o effect can fresh says =
    let f = fetched_of h x in
    let at : fetching past x.seq ≡ Some f = can.is_active.fetched in
    retire_allows setup past actor x.seq effect (record {
      actor_is = there;
      fated = ap (λ y. is y Completed) can.completed;
      oldest = oldest_in setup past h x o can;
      effect_is =
          at_fetched past x.seq (λ g. same_effect effect (effect_now setup past x.seq g)) f at
          (ap (same_effect effect) (sym says) ∙ same_effect-self effect);
      fresh = at_fetched past x.seq (is_fresh setup past) f at fresh;
    })

-- ---- What it changes: by whether it ends its hart, and whether its second look gave another number

squashes_or : (past : List Event) (s : ℕ) (effect : Effect) (replays : Bool) → is_last effect.next ≡ false
    → is_replayed past s effect ≡ replays → squashes_at_retirement past s effect ≡ replays
unfolding squashes_at_retirement
squashes_or past s effect replays going same = rw (going, same) refl

pub record RetiresBy (setup : Setup) (past : List Event) (actor h n : ℕ) (x : Effect) : Type 0 where
  pub commits : is_last x.next ≡ false → is_replayed past n x ≡ false
      → IsRetire (picture setup past) (picture setup (Retire actor n x ∷ past)) h n x (fetch_pc setup past h)
  pub replays : is_last x.next ≡ false → is_replayed past n x ≡ true
      → IsReplay (picture setup past) (picture setup (Retire actor n x ∷ past)) h n x
      (pc_after x.next (fetch_pc setup past h))
  pub ends : is_last x.next ≡ true
      → IsEnd (picture setup past) (picture setup (Retire actor n x ∷ past)) h n x

pub retires_by_tests : (setup : Setup) (past : List Event) → is_legal setup past → registers_of setup ≤ most_registers
    → (actor h n : ℕ) (x : Effect) → refused setup past (Retire actor n x) ≡ None → is_of past h n ≡ true
    → RetiresBy setup past actor h n x
retires_by_tests setup past legal fit actor h n x ok of_h = record {
  commits = λ going same.
      steps-Retire setup past legal actor n x ok fit (squashes_or past n x false going same) h of_h;
  replays = λ going other.
      steps-Replay setup past legal actor n x ok fit (squashes_or past n x true going other) going h of_h;
  ends = λ last. steps-End setup past legal actor n x ok fit last h of_h;
}
