-- A retirement that ends or stops its hart: it leaves and leaves a record, then all younger ones are squashed.
use Rattle.std.specs.Prelude.{◌≡◌, ◌≢◌, ℕ, ◌≤◌, Bool, true, false, not, ◌==◌, ◌&&◌, List, ◌∷◌, Option, Some, None}
use Rattle.std.proofs.Common.{◌∙◌, refl, sym, ap, subst, inl, inr, arith}
use Rattle.std.proofs.{lemmas.Bool.cases_Bool, lemmas.Bool.cases_eq, lemmas.Bool.Decides.nat_tests}
use Rattle.numbers.specs.Sizes.{most_registers}
use Rattle.rv_instr.specs.declared.op.Op.{Op}
use Rattle.events.specs.{declared.effect.Effect.Effect, declared.event.Event.Event}
use Rattle.events.specs.{declared.event.Event.TheVariants.Retire, declared.effect.Next.Next}
use Rattle.events.specs.{declared.effect.Next.TheVariants.Pc, declared.effect.Next.TheVariants.Ended}
use Rattle.events.specs.{declared.effect.Next.TheVariants.Stopped}
use Rattle.smt_model.specs.{Setup.Setup, Setup.registers_of, Rules.refused, Rules.is_legal, Rules.computed_at}
use Rattle.smt_model.specs.{Picture.picture, Exec.Computed, Nexts.is_last, Nexts.pc_after, Effects.effect_of}
use Rattle.smt_model.specs.{Bytes.read, Bytes.byte_after, Reservations.holds_word, Plain.status_after}
use Rattle.smt_model.specs.{Plain.output_after, Fetching.fetch_pc, Steps.IsEnd, Steps.filled_value}
use Rattle.smt_model.specs.Fates.{op_at, is_of, op_of_fetched, squashes_at_retirement}
use Rattle.smt_model.specs.{Registers.phys, Registers.writes, Registers.value, Touched.is_touched, Touched.looks}
use Rattle.smt_model.specs.Memory.{status, output, byte_at, reserved}
use Rattle.smt_model.proofs.{Fates.Numbers.known_fetched, Fates.Moves.retire_was}
use Rattle.smt_laws.proofs.{Registers.Reading.effect-next, Registers.Values.retire_says, Staying.another}
use Rattle.smt_laws.proofs.Fates.Choosing.{last_squashes_at_retirement}
use Rattle.smt_laws.proofs.{Steps.RetireCommits.was-Retire, Steps.RetireCommits.committed-other}
use Rattle.smt_laws.proofs.{Steps.Retire.values-Retire, Steps.Retire.records-Retire}
use Rattle.smt_laws.proofs.{Touching.touched-silent, Touching.looks-last}
use Rattle.smt_laws.proofs.{Events.Emptying.squashing-Retire, Events.Emptying.emptying-Retire}
use Rattle.smt_laws.proofs.Steps.Leaving.{IsLeaving, leave_middle, leaves, squashes_rest}

-- ---- Values

filled_other : (register filled : Option ℕ) (y : ℕ) (before : Option ℕ) → register ≢ Some y
    → filled_value register filled y before ≡ before
filled_other None filled y before apart_too = refl
filled_other (Some z) filled y before apart_too =
    let other : (y == z) ≡ false = (elim (cases_eq y z) [
      | inl same ↦ absurd (apart_too (ap Some (sym same)))
      | inr different ↦ grind (arith, nat_tests)
    ]) in
    rw other refl

value-unread : (setup : Setup) (past : List Event) → is_legal setup past → (actor n : ℕ) (x : Effect)
    → refused setup past (Retire actor n x) ≡ None → (y : ℕ) → phys past n ≢ Some y
    → value setup (Retire actor n x ∷ past) y ≡ value setup past y
value-unread setup past legal actor n x ok y apart_too =
    values-Retire setup past legal actor n x ok y ∙ filled_other (phys past n) x.value y (value setup past y) apart_too

-- ---- What ends or stops puts nothing out, commits nothing, and sends its hart nowhere

last_pc : (next : Next) (before : ℕ) → is_last next ≡ true → pc_after next before ≡ before
last_pc (Pc pc) before last = absurd (grind arith)
last_pc (Ended number) before last = refl
last_pc (Stopped cause) before last = refl

-- It puts nothing out and writes nothing.
pub record IsQuiet (x : Effect) : Type 0 where
  pub out : x.out ≡ None
  pub write : x.write ≡ None

last_quiet : (op : Op) (c : Computed) (now : ℕ) (holds : Bool) → is_last c.next ≡ true
    → IsQuiet (effect_of op c now holds)
last_quiet op c now holds last = record { out = rw last refl; write = rw last refl }

quiet : (setup : Setup) (past : List Event) → is_legal setup past → (actor n : ℕ) (x : Effect)
    → refused setup past (Retire actor n x) ≡ None → is_last x.next ≡ true → IsQuiet x
quiet setup past legal actor n x ok last =
    let was = retire_was setup past actor n x ok in
    let found = known_fetched setup past legal n (omega arith) in
    let op = op_of_fetched (Some found.fetch) in
    let c = computed_at setup past n found.fetch in
    let now = read op (byte_at setup past) c.addr in
    let holds = holds_word (reserved past found.fetch.hart) c.addr in
    let says : x ≡ effect_of op c now holds = retire_says setup past actor n x ok found.fetch found.fetched in
    let ends : is_last c.next ≡ true =
    ap is_last (sym (effect-next op c now holds)) ∙ (ap (λ z. is_last z.next) (sym says) ∙ last) in
    subst IsQuiet (sym says) (last_quiet op c now holds ends)

reserved-End : (past : List Event) (actor n : ℕ) (x : Effect) → is_last x.next ≡ true → (g : ℕ)
    → reserved (Retire actor n x ∷ past) g ≡ reserved past g
reserved-End past actor n x last g = rw last refl

pc-End : (setup : Setup) (past : List Event) (actor n : ℕ) (x : Effect) → is_last x.next ≡ true → (g : ℕ)
    → fetch_pc setup (Retire actor n x ∷ past) g ≡ fetch_pc setup past g
pc-End setup past actor n x last g =
    elim (cases_Bool (is_of past g n && squashes_at_retirement past n x)) [
      | inl here ↦ rw here (last_pc x.next (fetch_pc setup past g) last)
      | inr elsewhere_too ↦ rw elsewhere_too refl
    ]

status-own : (past : List Event) (actor n h : ℕ) (x : Effect) → is_of past h n ≡ true
    → status (Retire actor n x ∷ past) h ≡ status_after x.next (status past h)
status-own past actor n h x of_n = rw of_n refl

status-other : (past : List Event) (actor n g : ℕ) (x : Effect) → is_of past g n ≡ false
    → status (Retire actor n x ∷ past) g ≡ status past g
status-other past actor n g x apart_too = rw apart_too refl

last_never : (mine last : Bool) → last ≡ true → (mine && not last) ≡ false
last_never mine last is_last_one = grind arith

-- ---- The step

leaving-End : (setup : Setup) (past : List Event) → is_legal setup past → (actor n : ℕ) (x : Effect)
    → refused setup past (Retire actor n x) ≡ None → is_last x.next ≡ true → (h : ℕ) → is_of past h n ≡ true
    → IsLeaving setup past (Retire actor n x) h
leaving-End setup past legal actor n x ok last h of_n =
    let silent = quiet setup past legal actor n x ok last in
    record {
      empties =
          emptying-Retire setup past actor n x ok h
          (squashing-Retire setup past legal actor n x ok (last_squashes_at_retirement past n x last) h of_n);
      was = was-Retire setup past actor n x ok;
      names = λ s. refl;
      completed = λ s. refl;
      commits = λ g r.
          committed-other setup past legal actor n x ok g r (last_never (writes past g r n) (is_last x.next) last);
      unread = value-unread setup past legal actor n x ok;
      elsewhere_pc = λ g other. pc-End setup past actor n x last g;
      elsewhere_status = λ g other. status-other past actor n g x (another past h g n of_n other);
      jobs = λ k. refl;
      fetches = record { fetched = λ s. refl; fetches = refl; last_fetched = refl };
      puts_out = ap (λ o. output_after o (output past)) silent.out;
      memory = record {
        byte = λ addr. ap (λ w. byte_after w addr (byte_at setup past addr)) silent.write;
        reserved = reserved-End past actor n x last;
        touched = touched-silent past actor n x silent.write;
        looks = looks-last (op_at past n) (is_touched past n) x (looks past) last;
      };
    }

pub steps-End : (setup : Setup) (past : List Event) → is_legal setup past → (actor n : ℕ) (x : Effect)
    → refused setup past (Retire actor n x) ≡ None → registers_of setup ≤ most_registers → is_last x.next ≡ true
    → (h : ℕ)
    → is_of past h n ≡ true
    → IsEnd (picture setup past) (picture setup (Retire actor n x ∷ past)) h n x
steps-End setup past legal actor n x ok fit last h of_n =
    let e = Retire actor n x in
    let leaving = leaving-End setup past legal actor n x ok last h of_n in
    record {
      middle = leave_middle setup past h n (e ∷ past);
      leave = leaves setup past legal fit e h leaving (status_after x.next (status past h))
          (status-own past actor n h x of_n) (fetch_pc setup past h) (pc-End setup past actor n x last h);
      records = records-Retire past actor n x;
      squash = squashes_rest setup past legal fit e ok h leaving;
    }
