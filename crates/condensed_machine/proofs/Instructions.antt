-- What one instruction of a hart comes to in a state in which it is hart h.
use Rattle.std.proofs.Common.{◌≡◌, ℕ, ◌<◌, Bool, true, false, refl, sym, ap, subst, ◌∙◌, arith, inl, inr}
use Rattle.std.specs.Prelude.{◌&&◌, ◌||◌, ◌==◌, not, nat_lt, if◌then◌else◌, slice_index, Option, None, is_some}
use Rattle.std.specs.List.{list_any}
use Rattle.std.proofs.{lemmas.Bool.cases_Bool, lemmas.Bool.Decides.nat_tests, Math.Path.fun_ext}
use Rattle.elf_image.specs.Image.{code_writable, word_now}
use Rattle.rv_instr.specs.{Decode.op_of_word, Table.OpInRange}
use Rattle.smt_model.specs.Words.{Op, Effect, Next}
use Rattle.smt_laws.proofs.Registers.Reading.{effect-next}
use Rattle.smt_model.specs.{Setup.Setup, Exec.Computed, Nexts.pc_after, Kinds.destination, Bytes.byte_after}
use Rattle.smt_model.specs.{Bytes.read, Effects.effect_of, Reservations.holds_word}
use Rattle.smt_model.specs.Plain.{Plain, after, op_at_pc, computes, effect_at, is_going_status, status_after}
use Rattle.smt_model.specs.Plain.{output_after, register_after, word_at_pc}
use Rattle.rv_instr.specs.Registers.{op_rd}
use Rattle.rv_instr.proofs.DecodedLemmas.{op_of_word_in_range, op_rd_below}
use Rattle.outcome_laws.specs.{Paths.can_step, Paths.stepped, Local.is_silent, Local.is_local}
use Rattle.outcome_laws.specs.{Local.fits, Local.keeps_to, Tables.Tables, Tables.AllowsAll}
use Rattle.outcome_laws.proofs.Fitting.{every_step_fits, fits_by_its_target, silent_steps_are_local}
use Rattle.live_registers.specs.{Targets.allows, Targets.is_jump, declared.targets.Targets.Targets}
use Rattle.sc_machine.specs.{Harts.HartAgrees, Harts.register_written, declared.hart.Hart.Hart}
use Rattle.sc_machine.proofs.Harts.{own_hart}
use Rattle.sc_machine.specs.Here.{computed_here}
use Rattle.shared_memory.specs.Contents.{Contents}
use Rattle.changed_memory.specs.Shared.{Shared, byte_at, reserved_at}
use Rattle.condensed_machine.specs.Settling.{HartsStay, OthersStay, GoesOn, HasTargets, IsFree, fails, is_followed}
use Rattle.condensed_machine.specs.{Machine.Program, Machine.tables_of, Machine.IsSound}
use Rattle.condensed_machine.specs.Executing.{SharedAgrees, IsExecuted}
use Rattle.condensed_machine.specs.declared.executed.Executed.{Executed}
use Rattle.condensed_machine.proofs.Failing.{LeavesAlone, followed_leaves, lacks_where_free}
use Rattle.condensed_machine.proofs.Finding.{below, computed_same, shared_same}

-- By the tables of a program jumps by registers go on where its targets say; where those say anywhere, the tables
-- allow all.
pub has_targets : (p : Program) → HasTargets p.targets (tables_of p)
has_targets p = record { targets_are = refl; ahead = λ h pc what writes. refl }

allows_all : (p : Program) → p.targets.anywhere ≡ true → AllowsAll (tables_of p)
allows_all p anywhere = record {
  targets = λ pc to. ap (λ b. b || list_any (is_jump pc to) p.targets.jumps.items) anywhere;
  ahead = λ h pc what writes. refl;
}

pub both : (a b : Bool) → a ≡ true → b ≡ true → (a && b) ≡ true
both a b first second = rw (first, second) refl

pub can_go : (setup : Setup) (s : Plain) (h : ℕ) (x : Hart) → h < setup.harts → HartAgrees s h x
    → is_going_status x.status ≡ true → can_step setup h s ≡ true
can_go setup s h x inside is going =
    let there : nat_lt h setup.harts ≡ true = grind (arith, nat_tests) in
    both (nat_lt h setup.harts) (is_going_status (s.statuses h)) there (ap is_going_status (sym is.status) ∙ going)

either_no : (a b c : Bool) → b ≡ false → ((a && b) && c) ≡ false
either_no true b c off = rw off refl
either_no false b c off = refl

pub second_no : (a b : Bool) → b ≡ false → (a && b) ≡ false
second_no true b off = off
second_no false b off = refl

-- No step of a hart is followed that doesn't go.
pub stands_over : (setup : Setup) (tables : Tables) (free : Bool) (s : Plain) (h : ℕ) (x : Hart) → HartAgrees s h x
    → is_going_status x.status ≡ false → (can_step setup h s && is_followed setup tables free h s) ≡ false
stands_over setup tables free s h x is over =
    either_no (nat_lt h setup.harts) (is_going_status (s.statuses h)) (is_followed setup tables free h s)
    (ap is_going_status (sym is.status) ∙ over)

-- Where the code may be written no step is followed.
pub stands_written : (setup : Setup) (tables : Tables) (free : Bool) (s : Plain) (h : ℕ)
    → code_writable setup.image ≡ true → (can_step setup h s && is_followed setup tables free h s) ≡ false
stands_written setup tables free s h writable =
    second_no (can_step setup h s) (is_followed setup tables free h s)
    (ap (λ b. not b && ((is_silent (op_at_pc setup s h) (computes setup s h) || fails free (op_at_pc setup s h))
    && fits setup tables h s)) writable)

-- The state behind an instruction, told by what was executed.
pub after_same : (setup : Setup) (s : Plain) (h : ℕ) (op : Op) (addr : ℕ) (e : Effect) → op ≡ op_at_pc setup s h
    → addr ≡ (computes setup s h).addr → e ≡ effect_at setup s h → after s h op addr e ≡ stepped setup h s
after_same setup s h op addr e of_op of_addr of_effect =
    ap (λ o. after s h o addr e) of_op ∙ ap (λ a. after s h (op_at_pc setup s h) a e) of_addr
    ∙ ap (after s h (op_at_pc setup s h) (computes setup s h).addr) of_effect

-- An instruction writes none but the registers that there are.
destination_below : (op : Op) → OpInRange op → destination op < 32
unfolding destination
destination_below op in_range = below (op_rd op) (op_rd_below op in_range)

pub written_below : (setup : Setup) (s : Plain) (h : ℕ) → destination (op_at_pc setup s h) < 32
written_below setup s h = destination_below (op_at_pc setup s h) (op_of_word_in_range (word_at_pc setup s h))

-- Any instruction changes its own hart alone.
pub harts_after : (s : Plain) (h : ℕ) (op : Op) (addr : ℕ) (e : Effect) → destination op < 32
    → HartsStay h s (after s h op addr e)
harts_after s h op addr e small = record {
  registers = λ g r apart. rw apart refl;
  pcs = λ g apart. rw apart refl;
  statuses = λ g apart. rw apart refl;
  beyond = λ g r past.
      let other : (r == destination op) ≡ false = grind (arith, nat_tests) in
      ap (λ b. if b then register_after e.value (s.registers g r) else s.registers g r)
      (second_no (g == h) (r == destination op) other);
}

others_stay : (s : Plain) (h : ℕ) (op : Op) (addr : ℕ) (e : Effect) → destination op < 32
    → LeavesAlone s h op addr e → OthersStay h s (after s h op addr e)
others_stay s h op addr e small leaves = record {
  harts = harts_after s h op addr e small;
  reserved = leaves.reserved;
  bytes = λ a. ap (λ w. byte_after w a (s.bytes a)) leaves.write;
  output = ap (λ out. output_after out s.output) leaves.out;
}

-- What was executed of hart x, and the hart y that it has made.
pub record HasAdvanced (op : Op) (e : Effect) (x y : Hart) : Type 0 where
  pub registers : (r : ℕ)
      → slice_index y.registers r ≡ register_written (destination op) e.value r (slice_index x.registers r)
  pub pc : y.pc ≡ pc_after e.next x.pc
  pub status : y.status ≡ status_after e.next x.status

pub hart_behind : (setup : Setup) (s : Plain) (h : ℕ) (op : Op) (addr : ℕ) (e : Effect) (x y : Hart)
    → HartAgrees s h x → HasAdvanced op e x y → after s h op addr e ≡ stepped setup h s
    → HartAgrees (stepped setup h s) h y
hart_behind setup s h op addr e x y is advanced same =
    subst (λ t. HartAgrees t h y) same
    (own_hart s h op addr e x y is advanced.registers advanced.pc advanced.status)

module _ (setup : Setup) (s : Plain) (h : ℕ) (op : Op) (c : Computed) (e : Effect)
    (of_op : op ≡ op_at_pc setup s h) (of_computed : c ≡ computes setup s h) where
  pub effect_same : e ≡ effect_of op c (read op s.bytes c.addr) (holds_word (s.reserved h) c.addr)
      → e ≡ effect_at setup s h
  effect_same is =
      is ∙ ap (λ o. effect_of o c (read o s.bytes c.addr) (holds_word (s.reserved h) c.addr)) of_op
      ∙ ap (λ (d : Computed). effect_of (op_at_pc setup s h) d (read (op_at_pc setup s h) s.bytes d.addr)
      (holds_word (s.reserved h) d.addr)) of_computed

  followed_same : (free : Bool)
      → (is_silent (op_at_pc setup s h) (computes setup s h) || fails free (op_at_pc setup s h))
      ≡ (is_silent op c || fails free op)
  followed_same free =
      ap (λ o. is_silent o (computes setup s h) || fails free o) (sym of_op)
      ∙ ap (λ d. is_silent op d || fails free op) (sym of_computed)

  -- Where the code may not be written, a step fits by where it goes on.
  fits_same : (targets : Targets) (tables : Tables) (pc : ℕ) → HasTargets targets tables
      → code_writable setup.image ≡ false → pc ≡ s.pcs h
      → fits setup tables h s ≡ keeps_to (allows targets) op pc c.next
  fits_same targets tables pc has fixed at =
      fits_by_its_target setup tables h s (second_no (tables.rewritten (s.pcs h)) (code_writable setup.image) fixed)
      has.ahead
      ∙ ap (λ t. keeps_to t (op_at_pc setup s h) (s.pcs h) (computes setup s h).next) has.targets_are
      ∙ ap (λ o. keeps_to (allows targets) o (s.pcs h) (computes setup s h).next) (sym of_op)
      ∙ ap (λ n. keeps_to (allows targets) op n (computes setup s h).next) (sym at)
      ∙ ap (λ (d : Computed). keeps_to (allows targets) op pc d.next) (sym of_computed)

  -- No step is followed that doesn't fit, or touches memory or puts a byte out and isn't SC of a hart that is free.
  pub stands_at : (targets : Targets) (tables : Tables) (free : Bool) (pc : ℕ) → HasTargets targets tables
      → code_writable setup.image ≡ false → pc ≡ s.pcs h
      → ((is_silent op c || fails free op) && keeps_to (allows targets) op pc c.next) ≡ false
      → (can_step setup h s && is_followed setup tables free h s) ≡ false
  stands_at targets tables free pc has fixed at seen =
      second_no (can_step setup h s) (is_followed setup tables free h s)
      (second_no (not (code_writable setup.image))
      ((is_silent (op_at_pc setup s h) (computes setup s h) || fails free (op_at_pc setup s h))
      && fits setup tables h s)
      (ap (λ b. b && fits setup tables h s) (followed_same free)
      ∙ ap (λ b. (is_silent op c || fails free op) && b) (fits_same targets tables pc has fixed at) ∙ seen))

  -- A step that is followed is local.
  followed_is_local : (targets : Targets) (tables : Tables) (free : Bool) (pc : ℕ) → HasTargets targets tables
      → code_writable setup.image ≡ false → pc ≡ s.pcs h → IsFree free h s
      → (is_silent op c || fails free op) ≡ true → keeps_to (allows targets) op pc c.next ≡ true
      → is_local setup tables h s ≡ true
  followed_is_local targets tables free pc has fixed at is_free followed keeps =
      silent_steps_are_local setup tables h s
      (second_no (tables.rewritten (s.pcs h)) (code_writable setup.image) fixed)
      (lacks_where_free setup s h free is_free (followed_same free ∙ followed))
      (fits_same targets tables pc has fixed at ∙ keeps)

  pub goes_by_one : (targets : Targets) (tables : Tables) (free : Bool) (x y : Hart) → HasTargets targets tables
      → code_writable setup.image ≡ false → h < setup.harts → HartAgrees s h x → IsFree free h s
      → is_going_status x.status ≡ true → (is_silent op c || fails free op) ≡ true
      → keeps_to (allows targets) op x.pc c.next ≡ true
      → ((now : ℕ) (held : Bool) → (free ≡ true → held ≡ false) → e ≡ effect_of op c now held)
      → HasAdvanced op e x y → GoesOn setup tables h 1 s y
  goes_by_one targets tables free x y has fixed inside is is_free going followed keeps effect advanced =
      let same = after_same setup s h op c.addr e of_op (ap (λ (d : Computed). d.addr) of_computed)
      (effect_same (effect (read op s.bytes c.addr) (holds_word (s.reserved h) c.addr)
      (λ free. ap (λ held. holds_word held c.addr) (is_free free)))) in
      let leaves : LeavesAlone s h op c.addr e =
      subst (LeavesAlone s h op c.addr) (sym (effect 0 false (λ free. refl)))
      (followed_leaves s h op c c.addr free is_free followed) in
      record {
        there = stepped setup h s;
        local = (
          can_go setup s h x inside is going,
          followed_is_local targets tables free x.pc has fixed is.pc is_free followed keeps,
          refl,
        );
        agrees = hart_behind setup s h op c.addr e x y is advanced same;
        others = subst (OthersStay h s) same (others_stay s h op c.addr e
            (subst (λ o. destination o < 32) (sym of_op) (written_below setup s h)) leaves);
      }

-- What was executed, on memory as the image has it with what has changed since.
pub is_executed : (setup : Setup) (s : Plain) (h : ℕ) (m : Contents) (x : Hart) (shared : Shared) (op : Op)
    (c : Computed) (addr : ℕ) (e : Effect) → m.image ≡ setup.image → HartAgrees s h x → SharedAgrees m.image s shared
    → op ≡ op_of_word (word_now m.image (byte_at m.image shared) x.pc) → OpInRange op
    → c ≡ computed_here m x op → addr ≡ c.addr
    → e ≡ effect_of op c (read op (byte_at m.image shared) c.addr) (holds_word (reserved_at shared h) c.addr)
    → IsExecuted setup s h (record { op = op; addr = addr; effect = e })
is_executed setup s h m x shared op c addr e image is agrees found in_range computed at effect =
    let of_op = shared_same setup s m h x image is shared op agrees found in
    let of_computed = computed ∙ computed_same setup s m h x image is op in_range of_op in
    let bytes : byte_at m.image shared ≡ s.bytes = fun_ext agrees.bytes in
    record {
      op = of_op;
      addr = at ∙ ap (λ (d : Computed). d.addr) of_computed;
      effect = effect_same setup s h op c e of_op of_computed
          (effect
          ∙ ap (λ f. effect_of op c (read op f c.addr) (holds_word (reserved_at shared h) c.addr)) bytes
          ∙ ap (λ held. effect_of op c (read op s.bytes c.addr) (holds_word held c.addr)) (agrees.reserved h));
    }

pub is_behind : (setup : Setup) (s : Plain) (h : ℕ) (e : Executed) (x y : Hart) → HartAgrees s h x
    → HasAdvanced e.op e.effect x y → IsExecuted setup s h e → HartAgrees (stepped setup h s) h y
is_behind setup s h e x y is advanced executed =
    hart_behind setup s h e.op e.addr e.effect x y is advanced
    (after_same setup s h e.op e.addr e.effect executed.op executed.addr executed.effect)

-- ---- Whether it fits

-- Of a jump that isn't lacking.
pub keeps_where_none : {A : Type 0} → (lacking : Option A) (keeps : Bool) → is_some lacking ≡ not keeps → lacking ≡ None
    → keeps ≡ true
keeps_where_none lacking true says none = refl
keeps_where_none lacking false says none = absurd (some_is_none (ap is_some (sym none) ∙ says))
  where
    some_is_none : false ≡ true → ⊥
    some_is_none same = absurd (grind arith)

-- An instruction fits a program's tables where it goes on as they say; and any does where the code may be written.
pub fits_noted : (p : Program) (setup : Setup) (s : Plain) (h : ℕ) (x : Hart) (e : Executed) → IsSound p
    → setup.image ≡ p.image → HartAgrees s h x → IsExecuted setup s h e
    → keeps_to (allows p.targets) e.op x.pc e.effect.next ≡ true → fits setup (tables_of p) h s ≡ true
fits_noted p setup s h x e sound image is executed keeps =
    elim (cases_Bool (code_writable p.image)) [
      | inl written ↦ every_step_fits setup (tables_of p) (allows_all p (sound.writable written)) h s
      | inr fixed ↦
          let op = op_at_pc setup s h in
          let c = computes setup s h in
          let next : e.effect.next ≡ c.next =
          ap (λ (it : Effect). it.next) executed.effect
          ∙ effect-next op c (read op s.bytes c.addr) (holds_word (s.reserved h) c.addr) in
          fits_by_its_target setup (tables_of p) h s (ap code_writable image ∙ fixed) (λ g pc what writes. refl)
          ∙ ap (λ o. keeps_to (allows p.targets) o (s.pcs h) c.next) (sym executed.op)
          ∙ ap (λ pc. keeps_to (allows p.targets) e.op pc c.next) (sym is.pc)
          ∙ ap (λ (n : Next). keeps_to (allows p.targets) e.op x.pc n) (sym next) ∙ keeps
    ]
