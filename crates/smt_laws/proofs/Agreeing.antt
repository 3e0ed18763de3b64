-- What a retiring instruction finds, where the history so far is a run of the plain machine: the plain machine's pc,
-- word, operands, memory and reservation. So it does what the plain machine does.
use Rattle.std.specs.Prelude.{◌≡◌, ℕ, zero, suc, ◌+◌, ◌<◌, ◌≤◌, true, ◌==◌, List, Option, Some, None}
use Rattle.std.proofs.Common.{◌∙◌, refl, sym, ap, inl, inr, arith}
use Rattle.std.proofs.{lemmas.Bool.cases_Bool, lemmas.Bool.Decides.nat_tests}
use Rattle.elf_image.specs.Image.{word_now}
use Rattle.elf_image.proofs.Words.{word_now-same}
use Rattle.rv_instr.specs.{Decode.op_of_word, declared.op.Op.Op}
use Rattle.events.specs.{declared.effect.Effect.Effect, declared.event.Event.Event}
use Rattle.events.specs.{declared.event.Event.TheVariants.Retire}
use Rattle.smt_model.specs.{Basics.holds_of, Basics.or_zero, Setup.Setup, Kinds.first_source, Kinds.second_source}
use Rattle.smt_model.specs.{Kinds.access_size, Faults.computed_on, Effects.effect_of, Bytes.read, Bytes.read_value}
use Rattle.smt_model.specs.{Bytes.number_at, Reservations.holds_word, Flights.live, Memory.byte_at, Memory.is_going}
use Rattle.smt_model.specs.{Rules.refused, Rules.is_legal, Rules.computed_at, Rules.is_fresh}
use Rattle.smt_model.specs.Plain.{Plain, is_going_status, read_register, word_at_pc, op_at_pc, computes, effect_at}
use Rattle.smt_model.specs.Fates.{Fetched, fetching, is_of, is_live, is_in_flight, op_of_fetched}
use Rattle.smt_model.specs.Registers.{source, committer, committed, source_register, register_by, first_register, value}
use Rattle.smt_model.specs.Registers.{reading, operand}
use Rattle.smt_model.proofs.{Allowed.retire_allowed, Fates.Moves.same_number-is, Fates.Moves.retire_was}
use Rattle.smt_laws.proofs.{Fates.Order.retire_front, Registers.Sources.source-is, Registers.Sources.source-committed}
use Rattle.smt_laws.proofs.{Registers.Sources.source-none, Fates.Choosing.hart_there, Fates.Choosing.left}
use Rattle.smt_laws.proofs.Registers.Below.{first_source-below, second_source-below}
use Rattle.smt_laws.proofs.{Events.Freeing.true_false, Steps.RetireCommits.was-Retire}
use Rattle.smt_laws.proofs.Registers.Operands.{IsSourceName, IsReady, reading_by-is, first_ready, second_ready}
use Rattle.smt_laws.specs.Sequential.{IsSequential, retired_pc}
use Rattle.smt_laws.specs.Chain.{Hop, hop, following_pc}
use Rattle.smt_laws.proofs.{Paths.chain-front, Done.IsDone, Live.live-front, Chains.chained}
use Rattle.smt_laws.proofs.{Chains.hop-done}

-- ---- The word is the one that memory has at the pc now

pub retired_word : (setup : Setup) (past : List Event) (actor n : ℕ) (x : Effect)
    → refused setup past (Retire actor n x) ≡ None → (f : Fetched) → fetching past n ≡ Some f
    → f.word ≡ word_now setup.image (byte_at setup past) f.pc
retired_word setup past actor n x ok f at =
    same_number-is f.word (word_now setup.image (byte_at setup past) f.pc)
    (sym (ap (holds_of (is_fresh setup past)) at) ∙ (retire_allowed setup past actor n x ok).fresh)

-- ---- Its sources are the committed registers

source_first_by : (setup : Setup) (past : List Event) → is_legal setup past → (actor n : ℕ) (x : Effect)
    → refused setup past (Retire actor n x) ≡ None → (h r : ℕ) → is_of past h n ≡ true → (o : Option ℕ)
    → source past h r n ≡ o
    → source past h r n ≡ committer past h r
source_first_by setup past legal actor n x ok h r of_n None found =
    found ∙ sym (source-none setup past legal h r n of_n (ap is_in_flight (was-Retire setup past actor n x ok)) found)
source_first_by setup past legal actor n x ok h r of_n (Some w) found =
    let at = source-is past h r n w found in
    let landed = retire_front setup past legal actor n x ok h w at.of_hart of_n at.older in
    found
    ∙ sym (source-committed setup past legal h r n w of_n (ap is_in_flight (was-Retire setup past actor n x ok))
    found landed)

pub source-first : (setup : Setup) (past : List Event) → is_legal setup past → (actor n : ℕ) (x : Effect)
    → refused setup past (Retire actor n x) ≡ None → (h r : ℕ) → is_of past h n ≡ true
    → source past h r n ≡ committer past h r
source-first setup past legal actor n x ok h r of_n =
    source_first_by setup past legal actor n x ok h r of_n (source past h r n) refl

-- So it reads the plain registers.
plain-reading : (setup : Setup) (past : List Event) → is_legal setup past → (k : IsSequential setup past)
    → (actor n : ℕ) (x : Effect)
    → refused setup past (Retire actor n x) ≡ None → (h r : ℕ) → is_of past h n ≡ true → r < 32
    → reading setup past h r n ≡ Some (read_register k.ran.state h r)
plain-reading setup past legal k actor n x ok h r of_n high =
    elim (cases_Bool (r == 0)) [
      | inl none ↦ rw none refl
      | inr some ↦
          let low : 1 ≤ r = grind (arith, nat_tests) in
          let there = hart_there setup past legal h n of_n in
          let same : source_register past h r n ≡ committed past h r =
          ap (register_by past (first_register h r)) (source-first setup past legal actor n x ok h r of_n) in
          let holds : value setup past (source_register past h r n) ≡ Some (k.ran.state.registers h r) =
          ap (value setup past) same ∙ k.registers h r there low high in
          rw some holds
    ]

plain-operand : (setup : Setup) (past : List Event) → is_legal setup past → (k : IsSequential setup past)
    → (actor n : ℕ) (x : Effect)
    → refused setup past (Retire actor n x) ≡ None → (done : IsDone setup past n x) → (which : Op → ℕ)
    → IsSourceName which → IsReady setup which past n
    → or_zero (operand setup which past n) ≡ read_register k.ran.state done.fetch.hart
    (which (op_of_fetched (Some done.fetch)))
plain-operand setup past legal k actor n x ok done which names is_ready =
    let f = done.fetch in
    let r = which (op_of_fetched (Some f)) in
    ap or_zero (is_ready.operand_is
    ∙ (sym is_ready.reading_is
    ∙ (reading_by-is setup which past n f done.fetched
    ∙ plain-reading setup past legal k actor n x ok f.hart r done.of_hart (names f.word))))

-- ---- Memory that is the same reads the same

number-same : (f g : ℕ → ℕ) → ((a : ℕ) → f a ≡ g a) → (addr n : ℕ) → number_at f addr n ≡ number_at g addr n
number-same f g same addr zero = refl
number-same f g same addr (suc n) = rw (same addr, number-same f g same (addr + 1) n) refl

pub read-same : (f g : ℕ → ℕ) → ((a : ℕ) → f a ≡ g a) → (op : Op) (addr : ℕ) → read op f addr ≡ read op g addr
read-same f g same op addr = ap (read_value op) (number-same f g same addr (access_size op))

-- ---- The plain machine's step

-- Who retires is of a hart that goes.
pub goes-yet : (setup : Setup) (past : List Event) → is_legal setup past → (actor n : ℕ) (x : Effect)
    → refused setup past (Retire actor n x) ≡ None → (h : ℕ) → is_of past h n ≡ true → is_going past h ≡ true
goes-yet setup past legal actor n x ok h of_n =
    elim (cases_Bool (is_going past h)) [
      | inl going ↦ going
      | inr gone ↦
          absurd
          (true_false (sym (ap is_live (was-Retire setup past actor n x ok)) ∙ left setup past legal h gone n of_n))
    ]

pub record IsStep (setup : Setup) (past : List Event) (n : ℕ) (x : Effect) (s : Plain) (f : Fetched) : Type 0 where
  pub there : f.hart < setup.harts
  pub going : is_going_status (s.statuses f.hart) ≡ true
  pub pc : s.pcs f.hart ≡ f.pc
  pub word : word_at_pc setup s f.hart ≡ f.word
  pub op : op_at_pc setup s f.hart ≡ op_of_fetched (Some f)
  pub computed : computes setup s f.hart ≡ computed_at setup past n f
  pub effect : effect_at setup s f.hart ≡ x

step-pc : (setup : Setup) (past : List Event) → is_legal setup past → (k : IsSequential setup past)
    → (actor n : ℕ) (x : Effect)
    → refused setup past (Retire actor n x) ≡ None → (done : IsDone setup past n x)
    → k.ran.state.pcs done.fetch.hart ≡ done.fetch.pc
step-pc setup past legal k actor n x ok done =
    let h = done.fetch.hart in
    let going = goes-yet setup past legal actor n x ok h done.of_hart in
    let one : Hop = record { pc = done.fetch.pc; next = following_pc (Some done.outcome) done.fetch.predicted } in
    let front : one.pc ≡ retired_pc setup past h =
    chain-front (hop past) (live past h) n one (live-front setup past legal actor n x ok h done.of_hart)
    (hop-done setup past n x done)
    (retired_pc setup past h) _ (chained setup past legal h going) in
    k.pcs h ∙ sym front

step-computed : (setup : Setup) (past : List Event) → is_legal setup past → (k : IsSequential setup past)
    → (actor n : ℕ) (x : Effect)
    → refused setup past (Retire actor n x) ≡ None → (done : IsDone setup past n x)
    → k.ran.state.pcs done.fetch.hart ≡ done.fetch.pc
    → op_at_pc setup k.ran.state done.fetch.hart ≡ op_of_fetched (Some done.fetch)
    → computes setup k.ran.state done.fetch.hart ≡ computed_at setup past n done.fetch
step-computed setup past legal k actor n x ok done pc same_op =
    let s = k.ran.state in
    let f = done.fetch in
    let h = f.hart in
    let op = op_of_fetched (Some f) in
    let at = retire_was setup past actor n x ok in
    let one = plain-operand setup past legal k actor n x ok done first_source first_source-below
    (first_ready setup past legal n (omega arith) (omega arith)) in
    let two = plain-operand setup past legal k actor n x ok done second_source second_source-below
    (second_ready setup past legal n (omega arith) (omega arith)) in
    ap (λ o. computed_on setup o (s.pcs h) (read_register s h (first_source o)) (read_register s h (second_source o)))
    same_op
    ∙ (ap (λ p. computed_on setup op p (read_register s h (first_source op)) (read_register s h (second_source op))) pc
    ∙ (ap (λ a. computed_on setup op f.pc a (read_register s h (second_source op))) (sym one)
    ∙ ap (λ b. computed_on setup op f.pc (or_zero (operand setup first_source past n)) b) (sym two)))

step-effect : (setup : Setup) (past : List Event) → (k : IsSequential setup past) → (n : ℕ) (x : Effect)
    → (done : IsDone setup past n x)
    → op_at_pc setup k.ran.state done.fetch.hart ≡ op_of_fetched (Some done.fetch)
    → computes setup k.ran.state done.fetch.hart ≡ computed_at setup past n done.fetch
    → effect_at setup k.ran.state done.fetch.hart ≡ x
step-effect setup past k n x done same_op same =
    let s = k.ran.state in
    let f = done.fetch in
    let h = f.hart in
    let op = op_of_fetched (Some f) in
    let c = computed_at setup past n f in
    let before = computes setup s h in
    ap (λ o. effect_of o before (read o s.bytes before.addr) (holds_word (s.reserved h) before.addr)) same_op
    ∙ (ap (λ d. effect_of op d (read op s.bytes d.addr) (holds_word (s.reserved h) d.addr)) same
    ∙ (ap (λ now. effect_of op c now (holds_word (s.reserved h) c.addr))
    (read-same s.bytes (byte_at setup past) k.bytes op c.addr)
    ∙ (ap (λ held. effect_of op c (read op (byte_at setup past) c.addr) (holds_word held c.addr)) (k.reserved h)
    ∙ sym done.effect_is)))

pub step-is : (setup : Setup) (past : List Event) → is_legal setup past → (k : IsSequential setup past)
    → (actor n : ℕ) (x : Effect)
    → refused setup past (Retire actor n x) ≡ None → (done : IsDone setup past n x)
    → IsStep setup past n x k.ran.state done.fetch
step-is setup past legal k actor n x ok done =
    let f = done.fetch in
    let pc_same = step-pc setup past legal k actor n x ok done in
    let word_same : word_at_pc setup k.ran.state f.hart ≡ f.word =
    ap (word_now setup.image k.ran.state.bytes) pc_same
    ∙ (word_now-same setup.image k.ran.state.bytes (byte_at setup past) k.bytes f.pc
    ∙ sym (retired_word setup past actor n x ok f done.fetched)) in
    let op_same : op_at_pc setup k.ran.state f.hart ≡ op_of_fetched (Some f) = ap op_of_word word_same in
    let same = step-computed setup past legal k actor n x ok done pc_same op_same in
    record {
      there = hart_there setup past legal f.hart n done.of_hart;
      going = ap is_going_status (k.statuses f.hart) ∙ goes-yet setup past legal actor n x ok f.hart done.of_hart;
      pc = pc_same;
      word = word_same;
      op = op_same;
      computed = same;
      effect = step-effect setup past k n x done op_same same;
    }
