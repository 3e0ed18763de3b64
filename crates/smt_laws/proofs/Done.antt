-- What is known of an instruction as it retires: what it said as it completed and says now is computed of its operands.
use Rattle.std.specs.Prelude.{◌≡◌, ℕ, Bool, true, false, ◌==◌, if◌then◌else◌, List, Option, Some, None}
use Rattle.std.proofs.Common.{◌∙◌, refl, sym, ap, subst, inl, inr, arith}
use Rattle.std.proofs.{lemmas.Bool.cases_Bool, lemmas.Bool.Decides.nat_tests}
use Rattle.rv_instr.specs.{declared.op.Op.Op, declared.op.Op.TheVariants.Known, declared.op.Op.TheVariants.Illegal}
use Rattle.rv_instr.specs.{declared.op.Op.TheVariants.NoWord, declared.instr.Instr.Instr, Registers.op_rd}
use Rattle.rv_instr.specs.{Registers.rd_of}
use Rattle.rv_instr.specs.declared.instr.Instr.TheVariants as instr
use Rattle.events.specs.{declared.effect.Outcome.Outcome, declared.effect.Effect.Effect, declared.event.Event.Event}
use Rattle.events.specs.{declared.event.Event.TheVariants.Retire}
use Rattle.smt_model.specs.{Setup.Setup, Exec.Computed, Nexts.is_last, Outcomes.outcome_of, Outcomes.outcome_by}
use Rattle.smt_model.specs.{Effects.effect_of, Effects.effect_by, Effects.last_effect, Reservations.own_reservation}
use Rattle.smt_model.specs.{Reservations.holds_word, Bytes.read, Memory.byte_at, Memory.reserved, Memory.address_of}
use Rattle.smt_model.specs.Kinds.{Kind, Computing, Loading, Storing, Reserving, Conditional, Atomic, kind_of}
use Rattle.smt_model.specs.Kinds.{kind_of_instr, is_storing, destination, writes_register}
use Rattle.smt_model.specs.Fates.{Fetched, fetching, completion, is_of, op_of_fetched}
use Rattle.smt_model.specs.Rules.{refused, is_legal, computed_at, effect_now}
use Rattle.smt_model.proofs.Fates.Moves.{retire_was}
use Rattle.smt_laws.proofs.Registers.Values.{completed-is, retire_says}
use Rattle.smt_laws.proofs.Registers.Reading.{effect-next}

-- Two that are there and the same.
pub some_one : {A : Type 0} → (a b : A) → Some a ≡ Some b → a ≡ b
some_one a b same = cc

-- ---- Tables of fields

-- The next of an outcome is the one computed.
outcome_next_by : (kind : Kind) (writes : Bool) (c : Computed) (look : Option ℕ)
    → (outcome_by kind writes c look).next ≡ c.next
outcome_next_by Computing writes c look = refl
outcome_next_by Loading writes c look = refl
outcome_next_by Storing writes c look = refl
outcome_next_by Reserving writes c look = refl
outcome_next_by Conditional writes c look = refl
outcome_next_by Atomic writes c look = refl

outcome-next : (op : Op) (c : Computed) (look : Option ℕ) → (outcome_of op c look).next ≡ c.next
outcome-next op c look =
    elim (cases_Bool (is_last c.next)) [
      | inl last ↦ rw last refl
      | inr going ↦ rw going (outcome_next_by (kind_of op) (writes_register op) c look)
    ]

-- The reservation that an instruction sets is on the address that its completion named.
own_by : (kind : Kind) (writes : Bool) (c : Computed) (look held : Option ℕ)
    → own_reservation kind (address_of (Some (outcome_by kind writes c look))) held ≡ own_reservation kind c.addr held
own_by Computing writes c look held = refl
own_by Loading writes c look held = refl
own_by Storing writes c look held = refl
own_by Reserving writes c look held = refl
own_by Conditional writes c look held = refl
own_by Atomic writes c look held = refl

pub own-said : (op : Op) (c : Computed) (look held : Option ℕ) → is_last c.next ≡ false
    → own_reservation (kind_of op) (address_of (Some (outcome_of op c look))) held
    ≡ own_reservation (kind_of op) c.addr held
own-said op c look held going = rw going (own_by (kind_of op) (writes_register op) c look held)

-- A store writes no register.
stores_nothing_of : (i : Instr) → is_storing (kind_of_instr i) ≡ true → rd_of i ≡ None
unfolding rd_of
stores_nothing_of (instr.Lui _ _) stores = absurd (grind arith)
stores_nothing_of (instr.Auipc _ _) stores = absurd (grind arith)
stores_nothing_of (instr.Jal _ _) stores = absurd (grind arith)
stores_nothing_of (instr.Jalr _ _ _) stores = absurd (grind arith)
stores_nothing_of (instr.Branch _ _ _ _) stores = absurd (grind arith)
stores_nothing_of (instr.Load _ _ _ _) stores = absurd (grind arith)
stores_nothing_of (instr.Store _ _ _ _) stores = refl
stores_nothing_of (instr.Immediate _ _ _ _) stores = absurd (grind arith)
stores_nothing_of (instr.Shift _ _ _ _) stores = absurd (grind arith)
stores_nothing_of (instr.Register _ _ _ _) stores = absurd (grind arith)
stores_nothing_of (instr.MulDiv _ _ _ _) stores = absurd (grind arith)
stores_nothing_of instr.Fence stores = absurd (grind arith)
stores_nothing_of instr.InstructionFence stores = absurd (grind arith)
stores_nothing_of instr.Ecall stores = absurd (grind arith)
stores_nothing_of instr.Ebreak stores = absurd (grind arith)
stores_nothing_of (instr.LoadReserved _ _ _) stores = absurd (grind arith)
stores_nothing_of (instr.StoreConditional _ _ _ _) stores = absurd (grind arith)
stores_nothing_of (instr.Amo _ _ _ _ _) stores = absurd (grind arith)

stores_nothing : (op : Op) → is_storing (kind_of op) ≡ true → writes_register op ≡ false
unfolding kind_of destination op_rd
stores_nothing (Known i) stores = rw (stores_nothing_of i stores) refl
stores_nothing Illegal stores = refl
stores_nothing NoWord stores = refl

-- Whatever else goes on and writes a register has a number for it as it retires; what writes none has none.
pub record IsGiven (o : Option ℕ) : Type 0 where
  pub number : ℕ
  pub is_so : o ≡ Some number

given_by : (kind : Kind) (op : Op) (c : Computed) (now : ℕ) (held : Bool) → is_storing kind ≡ false
    → IsGiven (effect_by kind op true c now held).value
given_by Computing op c now held loads = record { number = c.value; is_so = refl }
given_by Loading op c now held loads = record { number = now; is_so = refl }
given_by Storing op c now held loads = absurd (grind arith)
given_by Reserving op c now held loads = record { number = now; is_so = refl }
given_by Conditional op c now held loads = record { number = if held then 0 else 1; is_so = refl }
given_by Atomic op c now held loads = record { number = now; is_so = refl }

none_by : (kind : Kind) (op : Op) (c : Computed) (now : ℕ) (held : Bool)
    → (effect_by kind op false c now held).value ≡ None
none_by Computing op c now held = refl
none_by Loading op c now held = refl
none_by Storing op c now held = refl
none_by Reserving op c now held = refl
none_by Conditional op c now held = refl
none_by Atomic op c now held = refl

true_not_false : (b : Bool) → b ≡ true → b ≡ false → ⊥
true_not_false b one two = absurd (grind arith)

pub value-given : (op : Op) (c : Computed) (now : ℕ) (held : Bool) → is_last c.next ≡ false → writes_register op ≡ true
    → IsGiven (effect_of op c now held).value
value-given op c now held going writes =
    elim (cases_Bool (is_storing (kind_of op))) [
      | inl stores ↦ absurd (true_not_false (writes_register op) writes (stores_nothing op stores))
      | inr other ↦
          subst
          (λ b. IsGiven
          (if b then last_effect c.next else effect_by (kind_of op) op (writes_register op) c now held).value)
          (sym going)
          (subst (λ b. IsGiven (effect_by (kind_of op) op b c now held).value) (sym writes)
          (given_by (kind_of op) op c now held other))
    ]

pub value-none : (op : Op) (c : Computed) (now : ℕ) (held : Bool) → writes_register op ≡ false
    → (effect_of op c now held).value ≡ None
value-none op c now held none =
    elim (cases_Bool (is_last c.next)) [
      | inl last ↦ rw last refl
      | inr going ↦ rw (going, none) (none_by (kind_of op) op c now held)
    ]

pub value-last : (op : Op) (c : Computed) (now : ℕ) (held : Bool) → is_last c.next ≡ true
    → (effect_of op c now held).value ≡ None
value-last op c now held last = rw last refl

-- ---- The retiring instruction

pub record IsDone (setup : Setup) (past : List Event) (n : ℕ) (x : Effect) : Type 0 where
  pub fetch : Fetched
  pub outcome : Outcome
  pub look : ℕ
  pub fetched : fetching past n ≡ Some fetch
  pub of_hart : is_of past fetch.hart n ≡ true
  pub completed : completion past n ≡ Some outcome
  pub outcome_is : outcome ≡ outcome_of (op_of_fetched (Some fetch)) (computed_at setup past n fetch) (Some look)
  pub effect_is : x ≡ effect_now setup past n fetch
  -- It goes where its completion said, which is what was computed.
  pub next : outcome.next ≡ x.next
  pub next_is : x.next ≡ (computed_at setup past n fetch).next

pub is_of_own : (past : List Event) (n : ℕ) (f : Fetched) → fetching past n ≡ Some f → is_of past f.hart n ≡ true
is_of_own past n f at = let same : (f.hart == f.hart) ≡ true = grind (arith, nat_tests) in rw at same

pub done-at : (setup : Setup) (past : List Event) → is_legal setup past → (actor n : ℕ) (x : Effect)
    → refused setup past (Retire actor n x) ≡ None → IsDone setup past n x
done-at setup past legal actor n x ok =
    let done = completed-is setup past legal n (retire_was setup past actor n x ok) in
    let f = done.fetch in
    let op = op_of_fetched (Some f) in
    let c = computed_at setup past n f in
    let says = retire_says setup past actor n x ok f done.fetched in
    let to : x.next ≡ c.next =
    ap (λ z. z.next) says
    ∙ effect-next op c (read op (byte_at setup past) c.addr) (holds_word (reserved past f.hart) c.addr) in
    record {
      fetch = f;
      outcome = done.outcome;
      look = done.look;
      fetched = done.fetched;
      of_hart = is_of_own past n f done.fetched;
      completed = done.completed;
      outcome_is = done.outcome_is;
      effect_is = says;
      next = ap (λ o. o.next) done.outcome_is ∙ (outcome-next op c (Some done.look) ∙ sym to);
      next_is = to;
    }
