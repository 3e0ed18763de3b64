-- Laws of the plain machine: x0, one hart a step, what memory does, and reservations.
use Rattle.std.specs.Prelude.{◌≡◌, ◌≢◌, ◌⊎◌, ℕ, ◌+◌, ◌-◌, ◌*◌, ◌/◌, ◌%◌, ◌^◌, ◌<◌, ◌≤◌, Bool, true, false, not, ◌==◌}
use Rattle.std.specs.Prelude.{◌&&◌, nat_lt, nat_le, if◌then◌else◌, List, [], ◌∷◌, Option, Some, None}
use Rattle.std.proofs.Common.{◌∙◌, refl, sym, ap, subst, inl, inr, arith}
use Rattle.std.proofs.{lemmas.Bool.cases_Bool, lemmas.Bool.Decides.nat_tests}
use Rattle.rv_instr.specs.declared.op.Op.{Op}
use Rattle.events.specs.{declared.effect.Effect.Effect, declared.effect.Record.Record, declared.effect.Written.Written}
use Rattle.smt_model.specs.{Setup.Setup, Kinds.Conditional, Kinds.kind_of, Kinds.destination, Exec.Computed}
use Rattle.smt_model.specs.{Nexts.is_last, Nexts.pc_after, Effects.effect_of}
use Rattle.smt_model.specs.Bytes.{read, byte_after, written_byte, write_of}
use Rattle.smt_model.specs.Reservations.{holds_word, word_of_address, own_reservation, reservation_after}
use Rattle.smt_model.specs.Reservations.{reservation_after_write}
use Rattle.smt_model.specs.Plain.{Run, run, step, advance, start, is_going_status, register_after, status_after}
use Rattle.smt_model.specs.Plain.{op_at_pc, computes, effect_at, record_at}
use Rattle.smt_laws.proofs.Registers.Reading.{effect-next}
use Rattle.smt_laws.specs.PlainLaws.{ReadsZero, IsUntouched, StepsAlone, ChangesAsSaid, IsRecorded, WritesAsSaid}
use Rattle.smt_laws.specs.PlainLaws.{StoresWhereHeld, StopsWithoutWriting, EndsReservations}
use Rattle.smt_laws.proofs.Done.{some_one, value-none}

-- ---- What a step is

taken : (test : Bool) (a b : Run) → (if test then Some a else None) ≡ Some b → a ≡ b
taken true a b same = some_one a b same
taken false a b same = absurd (grind arith)

pub taken_true : (test : Bool) (a b : Run) → (if test then Some a else None) ≡ Some b → test ≡ true
taken_true true a b same = refl
taken_true false a b same = absurd (grind arith)

stepped : (setup : Setup) (h : ℕ) (before after_it : Run) → step setup h (Some before) ≡ Some after_it
    → advance setup h before ≡ after_it
stepped setup h before after_it goes =
    taken (nat_lt h setup.harts && is_going_status (before.state.statuses h)) (advance setup h before) after_it goes

-- ---- x0

never : (x : Option ℕ) (before : ℕ) → x ≡ None → before ≡ 0 → register_after x before ≡ 0
never x before none zero_before = rw none zero_before

no_destination : (d : ℕ) → (0 == d) ≡ true → not (d == 0) ≡ false
no_destination d same = grind (arith, nat_tests)

if_same : (test : Bool) (a b : ℕ) → (test ≡ true → a ≡ 0) → b ≡ 0 → (if test then a else b) ≡ 0
if_same true a b one two = one refl
if_same false a b one two = two

zero-kept : (setup : Setup) (h : ℕ) (ran : Run) (g : ℕ) → ran.state.registers g 0 ≡ 0
    → (advance setup h ran).state.registers g 0 ≡ 0
zero-kept setup h ran g was =
    let s = ran.state in
    let op = op_at_pc setup s h in
    let c = computes setup s h in
    let x = effect_at setup s h in
    if_same ((g == h) && (0 == destination op)) (register_after x.value (s.registers g 0)) (s.registers g 0)
    (λ mine.
    never x.value (s.registers g 0)
    (value-none op c (read op s.bytes c.addr) (holds_word (s.reserved h) c.addr)
    (no_destination (destination op) (grind arith))) was)
    was

pub run_before : (setup : Setup) (h : ℕ) (before : Option Run) (ran : Run) → step setup h before ≡ Some ran
    → (one : Run) × ((before ≡ Some one) × (advance setup h one ≡ ran))
run_before setup h None ran goes = absurd (grind arith)
run_before setup h (Some one) ran goes = (one, (refl, stepped setup h one ran goes))

holds-zero : (setup : Setup) (order : List ℕ) (ran : Run) → run setup order ≡ Some ran → (g : ℕ)
    → ran.state.registers g 0 ≡ 0
holds-zero setup [] ran goes g =
    let begin : Run = record { records = []; state = start setup } in
    subst (λ z. z.state.registers g 0 ≡ 0) (some_one begin ran goes) refl
holds-zero setup (h ∷ order) ran goes g =
    let last = run_before setup h (run setup order) ran goes in
    subst (λ z. z.state.registers g 0 ≡ 0) last.1.1
    (zero-kept setup h last.0 g (holds-zero setup order last.0 last.1.0 g))

pub reads_zero : ReadsZero
reads_zero setup order ran goes h = record { reads = refl; holds = holds-zero setup order ran goes h }

-- ---- One hart

if_other : {A : Type 0} → (test : Bool) (a b : A) → test ≡ false → (if test then a else b) ≡ b
if_other test a b other = rw other refl

and_other : (a b : Bool) → a ≡ false → (a && b) ≡ false
and_other a b none = rw none refl

-- A write of another leaves a reservation or ends it.
left_or_ended : (w : Option Written) (held : Option ℕ) → (reservation_after_write w held ≡ held)
    ⊎ (reservation_after_write w held ≡ None)
left_or_ended None held = inl refl
left_or_ended (Some w) None = inl refl
left_or_ended (Some w) (Some addr) =
    elim (cases_Bool (word_of_address addr == word_of_address w.addr)) [
      | inl same ↦ inr (rw same refl)
      | inr apart ↦ inl (rw apart refl)
    ]

others_reservation : (op : Op) (addr : ℕ) (x : Effect) (own : Bool) (held : Option ℕ) → own ≡ false
    → (reservation_after op addr x own held ≡ held) ⊎ (reservation_after op addr x own held ≡ None)
others_reservation op addr x own held other =
    elim (cases_Bool (is_last x.next)) [
      | inl last ↦ inl (rw last refl)
      | inr going ↦ rw (going, other) (left_or_ended x.write held)
    ]

untouched : (setup : Setup) (h : ℕ) (ran : Run) (g : ℕ) → (g == h) ≡ false
    → IsUntouched ran.state (advance setup h ran).state g
untouched setup h ran g other =
    let s = ran.state in
    let op = op_at_pc setup s h in
    let x = effect_at setup s h in
    record {
      registers = λ r.
          if_other ((g == h) && (r == destination op)) (register_after x.value (s.registers g r)) (s.registers g r)
          (and_other (g == h) (r == destination op) other);
      pc = if_other (g == h) (pc_after x.next (s.pcs g)) (s.pcs g) other;
      status = if_other (g == h) (status_after x.next (s.statuses g)) (s.statuses g) other;
      reserved = others_reservation op (computes setup s h).addr x (g == h) (s.reserved g) other;
    }

pub steps_alone : StepsAlone
steps_alone setup h before after_it goes g other =
    let apart : (g == h) ≡ false = grind (arith, nat_tests) in
    subst (λ z. IsUntouched before.state z.state g) (stepped setup h before after_it goes)
    (untouched setup h before g apart)

-- ---- Memory

byte_inside : (w : Written) (i before : ℕ) → i < w.n
    → written_byte w (w.addr + i) before ≡ w.datum / 2 ^ (8 * i) % 2 ^ 8
byte_inside w i before inside =
    let low : nat_le w.addr (w.addr + i) ≡ true = grind (arith, nat_tests) in
    let high : nat_lt (w.addr + i) (w.addr + w.n) ≡ true = grind (arith, nat_tests) in
    let at : w.addr + i - w.addr ≡ i = omega arith in
    rw (low, high, at) refl

byte_outside : (w : Written) (a before : ℕ) → (a < w.addr) ⊎ (w.addr + w.n ≤ a) → written_byte w a before ≡ before
byte_outside w a before out =
    let test : (nat_le w.addr a && nat_lt a (w.addr + w.n)) ≡ false = grind (arith, nat_tests) in
    rw test refl

changes : (said : Record) (before : ℕ → ℕ) → ChangesAsSaid said before (λ a. byte_after said.effect.write a (before a))
changes said before = record {
  none = λ is a. rw is refl;
  some = λ w is. record {
    inside = λ i under. ap (λ o. byte_after o (w.addr + i) (before (w.addr + i))) is
        ∙ byte_inside w i (before (w.addr + i)) under;
    outside = λ a out. ap (λ o. byte_after o a (before a)) is ∙ byte_outside w a (before a) out;
  };
}

recorded : (setup : Setup) (h : ℕ) (ran : Run) → IsRecorded h ran (advance setup h ran)
recorded setup h ran = record {
  said = record_at setup ran.state h;
  hart = refl;
  records = refl;
  changes = changes (record_at setup ran.state h) ran.state.bytes;
}

pub writes_as_said : WritesAsSaid
writes_as_said setup h before after_it goes =
    subst (λ z. IsRecorded h before z) (stepped setup h before after_it goes) (recorded setup h before)

-- ---- Store-conditionals, and what stops

conditional : (op : Op) (c : Computed) (now : ℕ) (held : Bool) → kind_of op ≡ Conditional
    → is_last (effect_of op c now held).next ≡ false
    → (effect_of op c now held).write ≡ (if held then Some (write_of c.addr 4 c.datum) else None)
conditional op c now held is going =
    let goes_on : is_last c.next ≡ false = ap is_last (sym (effect-next op c now held)) ∙ going in
    rw (goes_on, is) refl

-- Memory stays where nothing is written.
bytes-stay : (setup : Setup) (h : ℕ) (before after_it : Run) → step setup h (Some before) ≡ Some after_it
    → (effect_at setup before.state h).write ≡ None → (a : ℕ) → after_it.state.bytes a ≡ before.state.bytes a
bytes-stay setup h before after_it goes none a =
    subst (λ z. z.state.bytes a ≡ before.state.bytes a) (stepped setup h before after_it goes)
    (ap (λ o. byte_after o a (before.state.bytes a)) none)

pub stores_where_held : StoresWhereHeld
stores_where_held setup h before after_it goes is going =
    let s = before.state in
    let op = op_at_pc setup s h in
    let c = computes setup s h in
    let held = holds_word (s.reserved h) c.addr in
    let writes : (effect_at setup s h).write ≡ (if held then Some (write_of c.addr 4 c.datum) else None) =
    conditional op c (read op s.bytes c.addr) held is going in
    record {
      stores = λ holds. writes ∙ ap (λ b. if b then Some (write_of c.addr 4 c.datum) else None) holds;
      fails = λ lacks.
          let none : (effect_at setup s h).write ≡ None =
          writes ∙ ap (λ b. if b then Some (write_of c.addr 4 c.datum) else None) lacks in
          (none, bytes-stay setup h before after_it goes none);
    }

stops : (op : Op) (c : Computed) (now : ℕ) (held : Bool) → is_last (effect_of op c now held).next ≡ true
    → (effect_of op c now held).write ≡ None
stops op c now held last =
    let ends : is_last c.next ≡ true = ap is_last (sym (effect-next op c now held)) ∙ last in
    rw ends refl

pub stops_without_writing : StopsWithoutWriting
stops_without_writing setup h before after_it goes last =
    let s = before.state in
    let op = op_at_pc setup s h in
    let c = computes setup s h in
    let none : (effect_at setup s h).write ≡ None =
    stops op c (read op s.bytes c.addr) (holds_word (s.reserved h) c.addr) last in
    (none, bytes-stay setup h before after_it goes none)

-- ---- Reservations

-- What writes goes on.
no_write : (next_effect : Effect) (w : Written) → next_effect.write ≡ None → next_effect.write ≢ Some w
no_write x w none some = absurd (grind arith)

write_going : (op : Op) (c : Computed) (now : ℕ) (held : Bool) (w : Written) → (effect_of op c now held).write ≡ Some w
    → is_last (effect_of op c now held).next ≡ false
write_going op c now held w writes =
    elim (cases_Bool (is_last c.next)) [
      | inl last ↦
          let none : (effect_of op c now held).write ≡ None = rw last refl in
          absurd (no_write (effect_of op c now held) w none writes)
      | inr going ↦ ap is_last (effect-next op c now held) ∙ going
    ]

none_some : (n : ℕ) → None ≢ Some n
none_some n same = absurd (grind arith)

ended_by : (w : Written) (held : Option ℕ) (addr : ℕ) → reservation_after_write (Some w) held ≡ Some addr
    → word_of_address addr ≢ word_of_address w.addr
ended_by w None addr kept same = absurd (grind arith)
ended_by w (Some old) addr kept same =
    elim (cases_Bool (word_of_address old == word_of_address w.addr)) [
      | inl ended ↦ absurd (none_some addr (rw ended at kept))
      | inr apart ↦
          let at : old ≡ addr = some_one old addr (rw apart at kept) in
          let now : word_of_address old ≡ word_of_address w.addr = ap word_of_address at ∙ same in
          absurd (grind (arith, nat_tests))
    ]

ended : (op : Op) (addr : ℕ) (x : Effect) (own : Bool) (held : Option ℕ) (w : Written) → x.write ≡ Some w
    → is_last x.next ≡ false → (left : ℕ)
    → reservation_after op addr x own held ≡ Some left → word_of_address left ≢ word_of_address w.addr
ended op addr x own held w writes going left kept =
    let before = if own then own_reservation (kind_of op) addr held else held in
    let at : reservation_after op addr x own held ≡ reservation_after_write (Some w) before =
    rw going (ap (λ o. reservation_after_write o before) writes) in
    ended_by w before left (sym at ∙ kept)

pub ends_reservations : EndsReservations
ends_reservations setup h before after_it goes w writes g addr kept =
    let s = before.state in
    let op = op_at_pc setup s h in
    let c = computes setup s h in
    let x = effect_at setup s h in
    let going = write_going op c (read op s.bytes c.addr) (holds_word (s.reserved h) c.addr) w writes in
    ended op c.addr x (g == h) (s.reserved g) w writes going addr
    (ap (λ z. z.state.reserved g) (stepped setup h before after_it goes) ∙ kept)
