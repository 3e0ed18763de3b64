-- Executions: the plain machine's runs leave just the lists of records in which each does what its instruction does to
-- what the older ones left.
use Rattle.std.specs.Prelude.{◌≡◌, ℕ, Bool, true, false, not, ◌==◌, ◌&&◌, nat_lt, if◌then◌else◌, List, [], ◌∷◌, map}
use Rattle.std.specs.Prelude.{Some}
use Rattle.std.proofs.Common.{◌∙◌, refl, sym, ap, subst, arith}
use Rattle.std.proofs.lemmas.Bool.Decides.{nat_tests}
use Rattle.elf_image.specs.Image.{word_now}
use Rattle.elf_image.proofs.Words.{word_now-same}
use Rattle.rv_instr.specs.Decode.{op_of_word}
use Rattle.events.specs.{declared.effect.Next.Next, declared.effect.Next.TheVariants.Pc}
use Rattle.events.specs.{declared.effect.Next.TheVariants.Ended, declared.effect.Next.TheVariants.Stopped}
use Rattle.events.specs.{declared.effect.Record.Record}
use Rattle.smt_model.specs.{declared.config.Status.Status, Setup.Setup, Kinds.destination, Kinds.first_source}
use Rattle.smt_model.specs.{Kinds.second_source, Nexts.is_last, Nexts.pc_after, Faults.computed_on, Effects.effect_of}
use Rattle.smt_model.specs.{Bytes.read, Bytes.byte_after, Reservations.holds_word, Reservations.reservation_after}
use Rattle.smt_model.specs.{Account.order}
use Rattle.smt_model.specs.Plain.{Plain, Run, run, step, advance, start, is_going_status, read_register, register_after}
use Rattle.smt_model.specs.Plain.{status_after, word_at_pc, op_at_pc, computes, effect_at, record_at}
use Rattle.smt_laws.specs.Execution.{op_of_record, goes_by, pc_by, number_by, operand_by, byte_by, computed_by}
use Rattle.smt_laws.specs.Execution.{reserved_by, done_by, GoesOn, IsExecution, RetiresAnExecution, RunsAreExecutions}
use Rattle.smt_laws.specs.Execution.{ExecutionsAreRuns}
use Rattle.smt_laws.proofs.{Done.some_one, Agreeing.read-same, Stepping.steps, PlainLaws.run_before}
use Rattle.smt_laws.proofs.{PlainLaws.taken_true, Sequential.sequential}

-- The machine stands where the records say.
pub record Agrees (setup : Setup) (all : List Record) (s : Plain) : Type 0 where
  pub registers : (g q : ℕ) → s.registers g q ≡ number_by setup all g q
  pub pcs : (g : ℕ) → s.pcs g ≡ pc_by setup all g
  pub going : (g : ℕ) → is_going_status (s.statuses g) ≡ goes_by all g
  pub reserved : (g : ℕ) → s.reserved g ≡ reserved_by setup all g
  pub bytes : (a : ℕ) → s.bytes a ≡ byte_by setup all a

-- ---- What a hart computes and does

reads-same : (setup : Setup) (all : List Record) (s : Plain) → Agrees setup all s → (h q : ℕ)
    → read_register s h q ≡ operand_by setup all h q
reads-same setup all s agrees h q = ap (λ z. if q == 0 then 0 else z) (agrees.registers h q)

-- Record r is of the word at its hart's pc.
pub record IsAt (setup : Setup) (s : Plain) (r : Record) : Type 0 where
  pub pc : s.pcs r.hart ≡ r.pc
  pub word : word_at_pc setup s r.hart ≡ r.word

computes-same : (setup : Setup) (all : List Record) (s : Plain) → Agrees setup all s → (r : Record) → IsAt setup s r
    → computes setup s r.hart ≡ computed_by setup all r
computes-same setup all s agrees r at =
    let h = r.hart in
    let op = op_of_record r in
    ap (λ w. computed_on setup (op_of_word w) (s.pcs h) (read_register s h (first_source (op_of_word w)))
    (read_register s h (second_source (op_of_word w)))) at.word
    ∙ (ap (λ p. computed_on setup op p (read_register s h (first_source op)) (read_register s h (second_source op)))
    at.pc
    ∙ (ap (λ a. computed_on setup op r.pc a (read_register s h (second_source op)))
    (reads-same setup all s agrees h (first_source op))
    ∙ ap (λ b. computed_on setup op r.pc (operand_by setup all h (first_source op)) b)
    (reads-same setup all s agrees h (second_source op))))

effect-same : (setup : Setup) (all : List Record) (s : Plain) → Agrees setup all s → (r : Record) → IsAt setup s r
    → effect_at setup s r.hart ≡ done_by setup all r
effect-same setup all s agrees r at =
    let h = r.hart in
    let op = op_of_record r in
    let before = computes setup s h in
    let c = computed_by setup all r in
    ap (λ w. effect_of (op_of_word w) before (read (op_of_word w) s.bytes before.addr)
    (holds_word (s.reserved h) before.addr)) at.word
    ∙ (ap (λ d. effect_of op d (read op s.bytes d.addr) (holds_word (s.reserved h) d.addr))
    (computes-same setup all s agrees r at)
    ∙ (ap (λ now. effect_of op c now (holds_word (s.reserved h) c.addr))
    (read-same s.bytes (byte_by setup all) agrees.bytes op c.addr)
    ∙ ap (λ held. effect_of op c (read op (byte_by setup all) c.addr) (holds_word held c.addr)) (agrees.reserved h)))

-- ---- One step

still_going : (next : Next) (before : Status)
    → is_going_status (status_after next before) ≡ (not (is_last next) && is_going_status before)
still_going (Pc pc) before = refl
still_going (Ended number) before = refl
still_going (Stopped cause) before = refl

going_after : (mine : Bool) (next : Next) (before : Status) (was : Bool) → is_going_status before ≡ was
    → is_going_status (if mine then status_after next before else before) ≡ (not (mine && is_last next) && was)
going_after true next before was same = still_going next before ∙ ap (λ b. not (is_last next) && b) same
going_after false next before was same = same

agrees-next : (setup : Setup) (all : List Record) (h : ℕ) (ran : Run) → Agrees setup all ran.state
    → Agrees setup (record_at setup ran.state h ∷ all) (advance setup h ran).state
agrees-next setup all h ran agrees =
    let s = ran.state in
    let r = record_at setup s h in
    let op = op_at_pc setup s h in
    let x = effect_at setup s h in
    let at : IsAt setup s r = record { pc = refl; word = refl } in
    record {
      registers = λ g q. ap (λ z. if (g == h) && (q == destination op) then register_after x.value z else z)
          (agrees.registers g q);
      pcs = λ g. ap (λ z. if g == h then pc_after x.next z else z) (agrees.pcs g);
      going = λ g. going_after (g == h) x.next (s.statuses g) (goes_by all g) (agrees.going g);
      reserved = λ g.
          ap (λ c. reservation_after op c.addr x (g == h) (s.reserved g)) (computes-same setup all s agrees r at)
          ∙ ap (λ z. reservation_after op (computed_by setup all r).addr x (g == h) z) (agrees.reserved g);
      bytes = λ a. ap (byte_after x.write a) (agrees.bytes a);
    }

-- ---- Runs are executions

pub record IsTold (setup : Setup) (ran : Run) (harts : List ℕ) : Type 0 where
  pub agrees : Agrees setup ran.records ran.state
  pub execution : IsExecution setup ran.records
  pub order : map (λ r. r.hart) ran.records ≡ harts

begins : (setup : Setup) → IsTold setup (record { records = []; state = start setup }) []
begins setup = record {
  agrees =
      record { registers = λ g q. refl; pcs = λ g. refl; going = λ g. refl; reserved = λ g. refl; bytes = λ a. refl };
  execution = tt;
  order = refl;
}

-- Who takes a step was there and going.
could : (setup : Setup) (h : ℕ) (one ran : Run) → step setup h (Some one) ≡ Some ran
    → (nat_lt h setup.harts && is_going_status (one.state.statuses h)) ≡ true
could setup h one ran goes =
    taken_true (nat_lt h setup.harts && is_going_status (one.state.statuses h)) (advance setup h one) ran goes

goes_on : (setup : Setup) (h : ℕ) (one : Run) → Agrees setup one.records one.state
    → (nat_lt h setup.harts && is_going_status (one.state.statuses h)) ≡ true
    → GoesOn setup one.records (record_at setup one.state h)
goes_on setup h one agrees test =
    let s = one.state in
    let at : IsAt setup s (record_at setup s h) = record { pc = refl; word = refl } in
    let same : is_going_status (s.statuses h) ≡ goes_by one.records h = agrees.going h in
    let goes : is_going_status (s.statuses h) ≡ true = grind arith in
    record {
      there = grind (arith, nat_tests);
      going = sym same ∙ goes;
      pc = agrees.pcs h;
      word = word_now-same setup.image s.bytes (byte_by setup one.records) agrees.bytes (s.pcs h);
      effect = effect-same setup one.records s agrees (record_at setup s h) at;
    }

told-next : (setup : Setup) (h : ℕ) (order : List ℕ) (one : Run) → IsTold setup one order
    → (nat_lt h setup.harts && is_going_status (one.state.statuses h)) ≡ true
    → IsTold setup (advance setup h one) (h ∷ order)
told-next setup h order one told test = record {
  agrees = agrees-next setup one.records h one told.agrees;
  execution = (goes_on setup h one told.agrees test, told.execution);
  order = ap (λ hs. h ∷ hs) told.order;
}

pub told : (setup : Setup) (order : List ℕ) (ran : Run) → run setup order ≡ Some ran → IsTold setup ran order
told setup [] ran goes =
    let begin : Run = record { records = []; state = start setup } in
    subst (λ z. IsTold setup z []) (some_one begin ran goes) (begins setup)
told setup (h ∷ order) ran goes =
    let last = run_before setup h (run setup order) ran goes in
    let test = could setup h last.0 ran (ap (step setup h) (sym last.1.0) ∙ goes) in
    subst (λ z. IsTold setup z (h ∷ order)) last.1.1
    (told-next setup h order last.0 (told setup order last.0 last.1.0) test)

pub runs_are_executions : RunsAreExecutions
runs_are_executions setup order ran goes = let all = told setup order ran goes in (all.execution, all.order)

-- ---- What every legal history retires

pub retires_an_execution : RetiresAnExecution
retires_an_execution setup past legal =
    let k = sequential setup past legal in
    subst (λ rs. IsExecution setup rs) k.records (told setup (order past) k.ran k.runs).execution

-- ---- Executions are runs

record-is : (a b : Record) → a.hart ≡ b.hart → a.pc ≡ b.pc → a.word ≡ b.word → a.effect ≡ b.effect → a ≡ b
record-is a b hart pc word effect =
    ap (λ z. record { hart = z; pc = a.pc; word = a.word; effect = a.effect }) hart
    ∙ (ap (λ z. record { hart = b.hart; pc = z; word = a.word; effect = a.effect }) pc
    ∙ (ap (λ z. record { hart = b.hart; pc = b.pc; word = z; effect = a.effect }) word
    ∙ ap (λ z. record { hart = b.hart; pc = b.pc; word = b.word; effect = z }) effect))

recorded-same : (setup : Setup) (older : List Record) (s : Plain) → Agrees setup older s → (r : Record)
    → GoesOn setup older r
    → record_at setup s r.hart ≡ r
recorded-same setup older s agrees r on =
    let pc_same : s.pcs r.hart ≡ r.pc = agrees.pcs r.hart ∙ sym on.pc in
    let word_same : word_at_pc setup s r.hart ≡ r.word = ap (word_now setup.image s.bytes) pc_same
    ∙ (word_now-same setup.image s.bytes (byte_by setup older) agrees.bytes r.pc ∙ sym on.word) in
    record-is (record_at setup s r.hart) r refl pc_same word_same
    (effect-same setup older s agrees r (record { pc = pc_same; word = word_same }) ∙ sym on.effect)

pub executions_are_runs : ExecutionsAreRuns
executions_are_runs setup [] all =
    record { ran = record { records = []; state = start setup }; runs = refl; records = refl }
executions_are_runs setup (r ∷ older) all =
    let before = executions_are_runs setup older all.1 in
    let h = r.hart in
    let agrees : Agrees setup older before.ran.state =
    subst (λ rs. Agrees setup rs before.ran.state) before.records
    (told setup (map (λ z. z.hart) older) before.ran before.runs).agrees in
    record {
      ran = advance setup h before.ran;
      runs = ap (step setup h) before.runs ∙ steps setup h before.ran all.0.there (agrees.going h ∙ all.0.going);
      records =
          ap (λ z. z ∷ before.ran.records) (recorded-same setup older before.ran.state agrees r all.0)
          ∙ ap (λ rs. r ∷ rs) before.records;
    }
