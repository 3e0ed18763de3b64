-- A retirement is a step of the plain machine: it leaves the history's record, and ends where the history does.
use Rattle.std.specs.Prelude.{◌≡◌, ℕ, ◌<◌, ◌≤◌, Bool, true, false, not, ◌==◌, ◌&&◌, nat_lt, if◌then◌else◌, List, ◌∷◌}
use Rattle.std.specs.Prelude.{◌++◌, map, Option, Some, None}
use Rattle.std.proofs.Common.{◌∙◌, refl, sym, ap, inl, inr, arith}
use Rattle.std.proofs.{lemmas.Bool.cases_Bool, lemmas.Bool.Decides.nat_tests}
use Rattle.rv_instr.specs.declared.op.Op.{Op}
use Rattle.events.specs.{declared.effect.Effect.Effect, declared.effect.Record.Record, declared.event.Event.Event}
use Rattle.events.specs.{declared.event.Event.TheVariants.Retire}
use Rattle.smt_model.specs.{Basics.holds_of, Setup.Setup, Kinds.destination, Kinds.writes_register, Exec.Computed}
use Rattle.smt_model.specs.{Nexts.is_last, Nexts.pc_after, Outcomes.outcome_of, Reservations.reservation_after}
use Rattle.smt_model.specs.{Reservations.reservation_after_write, Reservations.holds_word, Bytes.read, Rules.refused}
use Rattle.smt_model.specs.{Rules.is_legal, Rules.computed_at, Account.records, Account.record_of, Account.order}
use Rattle.smt_model.specs.Plain.{Run, run, step, advance, after, is_going_status, register_after, status_after}
use Rattle.smt_model.specs.Plain.{word_at_pc, op_at_pc, computes, effect_at}
use Rattle.smt_model.specs.Fates.{Fetched, stage, fate, fetching, completion, is_of, op_of_fetched}
use Rattle.smt_model.specs.Registers.{namings, writes, committer, committed, first_value, value, value_by, result_of}
use Rattle.smt_model.specs.Memory.{byte_at, reserved, address_of, status}
use Rattle.smt_model.proofs.{Lists.member, Fates.Moves.retire_was, Fates.Numbers.is_of-is}
use Rattle.smt_laws.proofs.Registers.Namings.{named_is}
use Rattle.smt_laws.proofs.Registers.Sources.{committer-is}
use Rattle.smt_model.proofs.Registers.Claims.{IsRegister}
use Rattle.smt_laws.proofs.Registers.Committing.{committed-kept, committer-Retire}
use Rattle.smt_laws.proofs.{Registers.Committing.committer-Retire_other, Registers.Held.is_held}
use Rattle.smt_laws.proofs.{Registers.Held.writer_named, Events.Calm.result-other, Steps.RetireCommits.result-Retire}
use Rattle.smt_laws.proofs.Steps.Retire.{records-Retire}
use Rattle.smt_laws.specs.Sequential.{IsSequential, retired_pc}
use Rattle.smt_laws.proofs.Done.{IsDone, own-said, value-given, value-last}
use Rattle.smt_laws.proofs.Agreeing.{IsStep}

-- ---- What a committed register holds

-- It holds what its last writer made, or the number of the start.
value-committed : (setup : Setup) (past : List Event) → is_legal setup past → (h r : ℕ) → IsRegister setup h r
    → value setup past (committed past h r) ≡ value_by past (first_value setup (committed past h r))
    (committer past h r)
value-committed setup past legal h r is_register =
    ap (value_by past (first_value setup (committed past h r))) ((is_held setup past legal).committing h r is_register)

value_by-same : (past : List Event) (e : Event) (otherwise o : Option ℕ)
    → ((w : ℕ) → o ≡ Some w → result_of (e ∷ past) w ≡ result_of past w)
    → value_by (e ∷ past) otherwise o ≡ value_by past otherwise o
value_by-same past e otherwise None same = refl
value_by-same past e otherwise (Some w) same = same w refl

-- It stays where nothing is committed to it.
pub value-kept : (setup : Setup) (past : List Event) → is_legal setup past → (e : Event)
    → (ok : refused setup past e ≡ None) → (h r : ℕ)
    → IsRegister setup h r → committer (e ∷ past) h r ≡ committer past h r
    → ((w : ℕ) → committer past h r ≡ Some w → result_of (e ∷ past) w ≡ result_of past w)
    → value setup (e ∷ past) (committed (e ∷ past) h r) ≡ value setup past (committed past h r)
value-kept setup past legal e ok h r is_register same results =
    value-committed setup (e ∷ past) (ok, legal) h r is_register
    ∙ (ap (value_by (e ∷ past) (first_value setup (committed (e ∷ past) h r))) same
    ∙ (ap (λ p. value_by (e ∷ past) (first_value setup p) (committer past h r))
    (committed-kept setup past legal e ok h r same)
    ∙ (value_by-same past e (first_value setup (committed past h r)) (committer past h r) results
    ∙ sym (value-committed setup past legal h r is_register))))

-- ---- The run

-- The run with one more record and the state that it leaves.
abbrev pub longer : Run → ℕ → ℕ → Option ℕ → Op → ℕ → Effect → Run
longer ran h pc word op addr x = record {
  records = record { hart = h; pc = pc; word = word; effect = x } ∷ ran.records;
  state = after ran.state h op addr x;
}

advance-is : (setup : Setup) (past : List Event) (n : ℕ) (x : Effect) (ran : Run) (f : Fetched)
    → IsStep setup past n x ran.state f
    → advance setup f.hart ran ≡ longer ran f.hart f.pc f.word (op_of_fetched (Some f))
    (computed_at setup past n f).addr x
advance-is setup past n x ran f is =
    let h = f.hart in
    let s = ran.state in
    let op = op_of_fetched (Some f) in
    let c = computes setup s h in
    ap (λ z. longer ran h z (word_at_pc setup s h) (op_at_pc setup s h) c.addr (effect_at setup s h)) is.pc
    ∙ (ap (λ z. longer ran h f.pc z (op_at_pc setup s h) c.addr (effect_at setup s h)) is.word
    ∙ (ap (λ z. longer ran h f.pc f.word z c.addr (effect_at setup s h)) is.op
    ∙ (ap (λ z. longer ran h f.pc f.word op z.addr (effect_at setup s h)) is.computed
    ∙ ap (λ z. longer ran h f.pc f.word op (computed_at setup past n f).addr z) is.effect)))

order-Retire : (past : List Event) (actor n : ℕ) (x : Effect) (f : Fetched) → fetching past n ≡ Some f
    → order (Retire actor n x ∷ past) ≡ f.hart ∷ order past
order-Retire past actor n x f at = ap (λ o. map (λ r. r.hart) (record_of o x ++ records past)) at

pub steps : (setup : Setup) (h : ℕ) (ran : Run) → h < setup.harts → is_going_status (ran.state.statuses h) ≡ true
    → step setup h (Some ran) ≡ Some (advance setup h ran)
steps setup h ran there going =
    let inside : nat_lt h setup.harts ≡ true = grind (arith, nat_tests) in rw (inside, going) refl

pub runs-Retire : (setup : Setup) (past : List Event) → (k : IsSequential setup past) → (actor n : ℕ) (x : Effect)
    → (f : Fetched)
    → fetching past n ≡ Some f → IsStep setup past n x k.ran.state f
    → run setup (order (Retire actor n x ∷ past))
    ≡ Some (longer k.ran f.hart f.pc f.word (op_of_fetched (Some f)) (computed_at setup past n f).addr x)
runs-Retire setup past k actor n x f at is =
    ap (run setup) (order-Retire past actor n x f at)
    ∙ (ap (step setup f.hart) k.runs
    ∙ (steps setup f.hart k.ran is.there is.going
    ∙ ap Some (advance-is setup past n x k.ran f is)))

pub records-longer : (setup : Setup) (past : List Event) → (k : IsSequential setup past) → (actor n : ℕ) (x : Effect)
    → (f : Fetched)
    → fetching past n ≡ Some f → (op : Op) (addr : ℕ)
    → (longer k.ran f.hart f.pc f.word op addr x).records ≡ records (Retire actor n x ∷ past)
records-longer setup past k actor n x f at op addr =
    let said : Record = record { hart = f.hart; pc = f.pc; word = f.word; effect = x } in
    ap (λ rs. said ∷ rs) k.records ∙ sym (records-Retire past actor n x f at)

-- ---- Of each hart: pc, status, reservation

same_test : (past : List Event) (h n g : ℕ) → is_of past h n ≡ true → (g == h) ≡ is_of past g n
same_test past h n g of_n = let at : is_of past g n ≡ (h == g) = is_of-is past h g n of_n in grind (arith, nat_tests)

pub pcs-Retire : (setup : Setup) (past : List Event) → (k : IsSequential setup past)
    → (actor n : ℕ) (x : Effect) (h : ℕ) → is_of past h n ≡ true
    → (g : ℕ) → (if g == h then pc_after x.next (k.ran.state.pcs g) else k.ran.state.pcs g)
    ≡ retired_pc setup (Retire actor n x ∷ past) g
pcs-Retire setup past k actor n x h of_n g =
    ap (λ b. if b then pc_after x.next (k.ran.state.pcs g) else k.ran.state.pcs g) (same_test past h n g of_n)
    ∙ ap (λ p. if is_of past g n then pc_after x.next p else p) (k.pcs g)

pub statuses-Retire : (setup : Setup) (past : List Event) → (k : IsSequential setup past)
    → (actor n : ℕ) (x : Effect) (h : ℕ) → is_of past h n ≡ true
    → (g : ℕ) → (if g == h then status_after x.next (k.ran.state.statuses g) else k.ran.state.statuses g)
    ≡ status (Retire actor n x ∷ past) g
statuses-Retire setup past k actor n x h of_n g =
    ap (λ b. if b then status_after x.next (k.ran.state.statuses g) else k.ran.state.statuses g)
    (same_test past h n g of_n)
    ∙ ap (λ z. if is_of past g n then status_after x.next z else z) (k.statuses g)

-- A reservation is made on the address that the completion named.
reserves-same : (op : Op) (c : Computed) (look : Option ℕ) (x : Effect) (own : Bool) (held : Option ℕ) → x.next ≡ c.next
    → reservation_after op c.addr x own held ≡ reservation_after op
    (address_of (Some (outcome_of op c look))) x own held
reserves-same op c look x own held to =
    elim (cases_Bool (is_last x.next)) [
      | inl last ↦ rw last refl
      | inr going ↦
          let goes_on : is_last c.next ≡ false = ap is_last (sym to) ∙ going in
          rw going
          (ap (λ z. reservation_after_write x.write (if own then z else held))
          (sym (own-said op c look held goes_on)))
    ]

pub reserved-Retire : (setup : Setup) (past : List Event) → (k : IsSequential setup past) → (actor n : ℕ) (x : Effect)
    → (done : IsDone setup past n x) → (g : ℕ)
    → reservation_after (op_of_fetched (Some done.fetch)) (computed_at setup past n done.fetch).addr x
    (g == done.fetch.hart) (k.ran.state.reserved g)
    ≡ reserved (Retire actor n x ∷ past) g
reserved-Retire setup past k actor n x done g =
    let f = done.fetch in
    let op = op_of_fetched (Some f) in
    let c = computed_at setup past n f in
    let said : completion past n ≡ Some (outcome_of op c (Some done.look)) = done.completed ∙ ap Some done.outcome_is in
    ap (λ b. reservation_after op c.addr x b (k.ran.state.reserved g)) (same_test past f.hart n g done.of_hart)
    ∙ (ap (λ z. reservation_after op c.addr x (is_of past g n) z) (k.reserved g)
    ∙ (reserves-same op c (Some done.look) x (is_of past g n) (reserved past g) done.next_is
    ∙ (ap (λ o. reservation_after op (address_of o) x (is_of past g n) (reserved past g)) (sym said)
    ∙ ap (λ o. reservation_after (op_of_fetched o) (address_of (completion past n)) x (is_of past g n)
    (reserved past g)) (sym done.fetched))))

-- ---- Registers

writes-test : (h d g q : ℕ) → ((h == g) && (d == q)) ≡ ((g == h) && (q == d))
writes-test h d g q = grind (arith, nat_tests)

writes-at : (past : List Event) (n : ℕ) (f : Fetched) → fetching past n ≡ Some f → (g q : ℕ)
    → writes past g q n ≡ ((g == f.hart) && (q == destination (op_of_fetched (Some f))))
writes-at past n f at g q =
    ap (holds_of (λ z. (z.hart == g) && (destination (op_of_fetched (Some z)) == q))) at
    ∙ writes-test f.hart (destination (op_of_fetched (Some f))) g q

-- The register that it writes.
writes_one : (h d g q : ℕ) → ((g == h) && (q == d)) ≡ true → 1 ≤ q → not (d == 0) ≡ true
writes_one h d g q mine low = grind (arith, nat_tests)

after-given : (o : Option ℕ) (v before : ℕ) → o ≡ Some v → Some (register_after o before) ≡ o
after-given o v before at = rw at refl

register-own : (setup : Setup) (past : List Event) → is_legal setup past → (k : IsSequential setup past)
    → (actor n : ℕ) (x : Effect)
    → (ok : refused setup past (Retire actor n x) ≡ None) → (done : IsDone setup past n x) → (g q : ℕ)
    → IsRegister setup g q
    → writes past g q n ≡ true → is_last x.next ≡ false
    → value setup (Retire actor n x ∷ past) (committed (Retire actor n x ∷ past) g q)
    ≡ Some (register_after x.value (k.ran.state.registers g q))
register-own setup past legal k actor n x ok done g q is_register mine going =
    let e = Retire actor n x in
    let was = retire_was setup past actor n x ok in
    let f = done.fetch in
    let op = op_of_fetched (Some f) in
    let c = computed_at setup past n f in
    let named : member n (namings past) ≡ true =
    named_is setup past legal n ∙ writer_named setup past legal g q n is_register.low mine (omega arith)
    (omega arith) in
    let now : committer (e ∷ past) g q ≡ Some n = committer-Retire setup past legal actor n x ok g q mine going named in
    let writes_it : writes_register op ≡ true =
    writes_one f.hart (destination op) g q (sym (writes-at past n f done.fetched g q) ∙ mine) is_register.low in
    let given = value-given op c (read op (byte_at setup past) c.addr) (holds_word (reserved past f.hart) c.addr)
    (ap is_last (sym done.next_is) ∙ going) writes_it in
    let number : x.value ≡ Some given.number = ap (λ z. z.value) done.effect_is ∙ given.is_so in
    value-committed setup (e ∷ past) (ok, legal) g q is_register
    ∙ (ap (value_by (e ∷ past) (first_value setup (committed (e ∷ past) g q))) now
    ∙ (result-Retire past actor n x ∙ sym (after-given x.value given.number (k.ran.state.registers g q) number)))

-- Any other stays.
register-kept : (setup : Setup) (past : List Event) → is_legal setup past → (actor n : ℕ) (x : Effect)
    → (ok : refused setup past (Retire actor n x) ≡ None) → (g q : ℕ) → IsRegister setup g q
    → (writes past g q n && not (is_last x.next)) ≡ false
    → value setup (Retire actor n x ∷ past) (committed (Retire actor n x ∷ past) g q)
    ≡ value setup past (committed past g q)
register-kept setup past legal actor n x ok g q is_register another =
    let was = retire_was setup past actor n x ok in
    value-kept setup past legal (Retire actor n x) ok g q is_register
    (committer-Retire_other setup past legal actor n x ok g q another)
    (λ w found.
    let retired = (committer-is past g q w found).retired in
    result-other (Retire actor n x) past w (λ same. absurd (omega (arith, ap (λ z. stage (fate past z)) same))))

value-none_last : (setup : Setup) (past : List Event) (n : ℕ) (x : Effect) → (done : IsDone setup past n x)
    → is_last x.next ≡ true → x.value ≡ None
value-none_last setup past n x done last =
    let f = done.fetch in
    let op = op_of_fetched (Some f) in
    let c = computed_at setup past n f in
    ap (λ z. z.value) done.effect_is
    ∙ value-last op c (read op (byte_at setup past) c.addr) (holds_word (reserved past f.hart) c.addr)
    (ap is_last (sym done.next_is) ∙ last)

only_last : (mine last : Bool) → mine ≡ true → (mine && not last) ≡ false → last ≡ true
only_last mine last here another = grind arith

untouched : (test : Bool) (x : Option ℕ) (before : ℕ) → (test ≡ true → x ≡ None)
    → (if test then register_after x before else before) ≡ before
untouched true x before none = ap (λ o. register_after o before) (none refl)
untouched false x before none = refl

pub registers-Retire : (setup : Setup) (past : List Event) → is_legal setup past → (k : IsSequential setup past)
    → (actor n : ℕ) (x : Effect)
    → (ok : refused setup past (Retire actor n x) ≡ None) → (done : IsDone setup past n x) → (g q : ℕ)
    → IsRegister setup g q
    → value setup (Retire actor n x ∷ past) (committed (Retire actor n x ∷ past) g q)
    ≡ Some (if (g == done.fetch.hart) && (q == destination (op_of_fetched (Some done.fetch)))
    then register_after x.value (k.ran.state.registers g q) else k.ran.state.registers g q)
registers-Retire setup past legal k actor n x ok done g q is_register =
    let f = done.fetch in
    let test = (g == f.hart) && (q == destination (op_of_fetched (Some f))) in
    let at : writes past g q n ≡ test = writes-at past n f done.fetched g q in
    elim (cases_Bool (writes past g q n && not (is_last x.next))) [
      | inl commits ↦
          let mine : writes past g q n ≡ true = grind arith in
          let going : is_last x.next ≡ false = grind arith in
          let here : test ≡ true = sym at ∙ mine in
          register-own setup past legal k actor n x ok done g q is_register mine going
          ∙ sym (ap (λ b. Some (if b then register_after x.value (k.ran.state.registers g q)
          else k.ran.state.registers g q)) here)
      | inr another ↦
          register-kept setup past legal actor n x ok g q is_register another
          ∙ (k.registers g q is_register.hart is_register.low is_register.high
          ∙ ap Some (sym (untouched test x.value (k.ran.state.registers g q)
          (λ here. value-none_last setup past n x done
          (only_last (writes past g q n) (is_last x.next) (at ∙ here) another)))))
    ]
