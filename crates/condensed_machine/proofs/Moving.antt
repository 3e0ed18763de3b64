-- A step of a hart, from the parts of the state before it to those behind it.
use Rattle.std.proofs.Common.{◌≡◌, ◌≢◌, ℕ, ◌<◌, true, false, replicate, refl, sym, ap, subst, ◌∙◌, arith, inl, inr}
use Rattle.std.specs.Prelude.{◌==◌, ◌&&◌, not, Bool, Option, Some, None, is_some, if◌then◌else◌, nat_lt, slice_index}
use Rattle.std.proofs.lemmas.Bool.{true≢false, cases_eq, Decides.nat_tests}
use Rattle.std.specs.Cmp.{first_so}
use Rattle.smt_model.specs.{declared.config.Status.TheVariants.Going}
use Rattle.smt_model.specs.{Setup.Setup, Kinds.destination, Bytes.byte_after, Reservations.reservation_after}
use Rattle.smt_model.specs.Plain.{Plain, after, output_after, is_going_status}
use Rattle.elf_image.specs.Image.{ProgramImage}
use Rattle.outcome_laws.specs.{Paths.stepped, Paths.HasItsCode, Live.reservation_matters}
use Rattle.condensed_machine.specs.Machine.{keeps_at}
use Rattle.outcome_laws.proofs.Holding.{has_next}
use Rattle.sc_machine.specs.{Harts.HartAgrees, declared.hart.Hart.Hart}
use Rattle.changed_memory.specs.Shared.{Shared, byte_at, reserved_at}
use Rattle.condensed_machine.specs.{Settling.HartsStay, Settling.OthersStay, Settling.GoesOn, Settling.IsFree}
use Rattle.condensed_machine.specs.{Machine.Program, Machine.tables_of, Machine.IsSound, Machine.HasCode}
use Rattle.condensed_machine.specs.{Steps.SettlesBy, Resting.keeps_reservation, Executing.is_dropped}
use Rattle.condensed_machine.specs.Decoded.{Decoded, full, hart_at, register_of}
use Rattle.condensed_machine.specs.Executing.{SharedAgrees, SharedAfter, IsExecuted, IsBehind, ComesToRest, InEachState}
use Rattle.condensed_machine.specs.declared.executed.Executed.{Executed}
use Rattle.condensed_machine.proofs.Coded.{code_in}
use Rattle.condensed_machine.proofs.Alike.{IsKeptAs, alike_by_harts, register_in, full_beyond, still_beyond}
use Rattle.condensed_machine.proofs.Alike.{rests_as, stays_as, full_as}
use Rattle.condensed_machine.proofs.Instructions.{after_same, harts_after, written_below, has_targets}
use Rattle.condensed_machine.proofs.Instructions.{second_no}

inside_test : (h harts : ℕ) → h < harts → nat_lt h harts ≡ true
inside_test h harts inside = grind (arith, nat_tests)

-- Hart h of a state, where it is there.
pub hart_is : (p : Program) (d : Decoded) (h : ℕ) → h < p.harts → slice_index (hart_at d.harts h).registers 0 ≡ 0
    → HartAgrees (full p d) h (hart_at d.harts h)
hart_is p d h inside zero =
    let x = hart_at d.harts h in
    let there = inside_test h p.harts inside in
    record {
      registers = λ r below.
          register_reads r (slice_index x.registers r) (register_of p h x r) (zero_there r zero)
          (sym (register_in p h x r there below));
      pc = sym (ap (λ b. if b then x.pc else p.image.entry) there);
      status = sym (ap (λ b. if b then x.status else Going) there);
    }
  where
    zero_there : (r : ℕ) → slice_index (hart_at d.harts h).registers 0 ≡ 0 → r ≡ 0
        → slice_index (hart_at d.harts h).registers r ≡ 0
    zero_there r at_zero is = subst (λ (k : ℕ). slice_index (hart_at d.harts h).registers k ≡ 0) (sym is) at_zero

    register_reads : (r n m : ℕ) → (r ≡ 0 → n ≡ 0) → n ≡ m → n ≡ (if r == 0 then 0 else m)
    register_reads r n m at_zero same = grind (arith, nat_tests)

pub shared_is : (p : Program) (d : Decoded) → SharedAgrees p.image (full p d) d.shared
shared_is p d = record { reserved = λ h. refl; bytes = λ a. refl; output = refl }

-- What harts share is so in s, but for hart h's reservation where that isn't kept.
record SharedStays (image : ProgramImage) (h : ℕ) (kept : Bool) (s : Plain) (shared : Shared) : Type 0 where
  reserved : (g : ℕ) → is_dropped h kept g ≡ false → reserved_at shared g ≡ s.reserved g
  bytes : (a : ℕ) → byte_at image shared a ≡ s.bytes a
  output : shared.output ≡ s.output

-- What harts share behind an instruction.
shared_behind : (setup : Setup) (p : Program) (s : Plain) (h : ℕ) (e : Executed) (kept : Bool) (old new : Shared)
    → SharedAgrees p.image s old → SharedAfter p.image h e kept old new
    → SharedStays p.image h kept (after s h e.op e.addr e.effect) new
shared_behind setup p s h e kept old new agrees is = record {
  reserved = λ g stays.
      is.reserved g stays ∙ ap (reservation_after e.op e.addr e.effect (g == h)) (agrees.reserved g);
  bytes = λ a. is.bytes a ∙ ap (byte_after e.effect.write a) (agrees.bytes a);
  output = is.output ∙ ap (output_after e.effect.out) agrees.output;
}

shared_stays : (p : Program) (h : ℕ) (kept : Bool) (s t : Plain) (shared : Shared) → OthersStay h s t
    → SharedStays p.image h kept s shared → SharedStays p.image h kept t shared
shared_stays p h kept s t shared others agrees = record {
  reserved = λ g stays. agrees.reserved g stays ∙ sym (others.reserved g);
  bytes = λ a. agrees.bytes a ∙ sym (others.bytes a);
  output = agrees.output ∙ sym others.output;
}

none_there : (held : Option ℕ) → not (is_some held) ≡ true → held ≡ None
none_there None none = refl
none_there (Some addr) none = absurd (true≢false (sym none))

-- Hart h is free behind its instruction, if it has no reservation then.
pub free_behind : (image : ProgramImage) (setup : Setup) (s : Plain) (h : ℕ) (e : Executed) (shared : Shared)
    (held : Bool) → IsExecuted setup s h e → SharedAgrees image s shared
    → held ≡ is_some (reservation_after e.op e.addr e.effect true (reserved_at shared h))
    → IsFree (not held) h (stepped setup h s)
free_behind image setup s h e shared held executed agrees has = λ free.
    let own : (h == h) ≡ true = grind (arith, nat_tests) in
    let behind = reservation_after e.op e.addr e.effect true (reserved_at shared h) in
    ap (λ (u : Plain). u.reserved h)
    (sym (after_same setup s h e.op e.addr e.effect executed.op executed.addr executed.effect))
    ∙ ap (λ b. reservation_after e.op e.addr e.effect b (s.reserved h)) own
    ∙ ap (reservation_after e.op e.addr e.effect true) (sym (agrees.reserved h))
    ∙ none_there behind (ap not (sym has) ∙ free)

-- Hart h of d has stepped and come to rest as y, and the parts of e are those behind it.
pub record IsNext (p : Program) (d e : Decoded) (h : ℕ) (done : Executed) (steps : ℕ) (y : Hart) : Type 0 where
  pub behind : Hart
  pub executed : InEachState p h (hart_at d.harts h) d.shared (λ setup s. IsExecuted setup s h done)
  pub is_behind : InEachState p h (hart_at d.harts h) d.shared (λ setup s. IsBehind setup s h behind)
  pub free : Bool
  pub is_free : InEachState p h (hart_at d.harts h) d.shared (λ setup s. IsFree free h (stepped setup h s))
  pub rests : ComesToRest p free behind steps y
  pub own : hart_at e.harts h ≡ y
  pub others : (g : ℕ) → g ≢ h → hart_at e.harts g ≡ hart_at d.harts g
  pub shared : SharedAfter p.image h done (keeps_reservation p y) d.shared e.shared

module _ (p : Program) (d e : Decoded) (h steps : ℕ) (done : Executed) (y : Hart) (sound : IsSound p)
    (inside : h < p.harts) (zero : slice_index (hart_at d.harts h).registers 0 ≡ 0) (code : HasCode p.image d.shared)
    (next : IsNext p d e h done steps y) (setup : Setup) (image : setup.image ≡ p.image)
    (harts : setup.harts ≡ p.harts) where
  abbrev behind : Plain
  behind = stepped setup h (full p d)

  there : h < setup.harts
  there = omega (arith, harts)

  executed : IsExecuted setup (full p d) h done
  executed = next.executed setup (full p d) image there (hart_is p d h inside zero) (shared_is p d)

  same : after (full p d) h done.op done.addr done.effect ≡ behind
  same = after_same setup (full p d) h done.op done.addr done.effect executed.op executed.addr executed.effect

  holds : HasItsCode setup behind
  holds = has_next setup h (full p d) (code_in setup p.image (full p d) d.shared image (shared_is p d) code)

  goes : GoesOn setup (tables_of p) h steps behind next.rests.moved
  goes =
      next.rests.settles.leads setup (tables_of p) h behind (has_targets p) image there holds
      (next.is_behind setup (full p d) image there (hart_is p d h inside zero) (shared_is p d))
      (λ told. next.is_free setup (full p d) image there (hart_is p d h inside zero) (shared_is p d)
      (first_so next.free (not p.without.conditional) told))

  abbrev keeps : Bool
  keeps = keeps_reservation p y

  shared : SharedStays p.image h keeps goes.there e.shared
  shared =
      shared_stays p h keeps behind goes.there e.shared goes.others
      (subst (λ s. SharedStays p.image h keeps s e.shared) same
      (shared_behind setup p (full p d) h done keeps d.shared e.shared (shared_is p d) next.shared))

  -- Where hart h's reservation matters it is kept.
  matters_there : (g : ℕ) → reservation_matters (keeps_at p) goes.there g ≡ true → is_dropped h keeps g ≡ false
  matters_there g matter = elim (cases_eq g h) [
    | inl own ↦
        let rested = next.rests.rested in
        let kept : keeps ≡ true =
        ap (λ status. is_going_status status && keeps_at p y.pc) (rested.status ∙ goes.agrees.status)
        ∙ ap (λ pc. is_going_status (goes.there.statuses h) && keeps_at p pc) (rested.pc ∙ goes.agrees.pc)
        ∙ subst (λ k. reservation_matters (keeps_at p) goes.there k ≡ true) own matter in
        ap (λ b. g == h && not b) kept ∙ second_no (g == h) false refl
    | inr other ↦
        let apart : (g == h) ≡ false = grind (arith, nat_tests) in
        ap (λ b. b && not keeps) apart
  ]

  stayed : HartsStay h (full p d) behind
  stayed = subst (HartsStay h (full p d)) same (harts_after (full p d) h done.op done.addr done.effect
      (subst (λ o. destination o < 32) (sym executed.op) (written_below setup (full p d) h)))

  kept : (g : ℕ) → IsKeptAs p goes.there g (hart_at e.harts g)
  kept g = elim (cases_eq g h) [
    | inl own ↦
        subst (λ k. IsKeptAs p goes.there k (hart_at e.harts k)) (sym own)
        (subst (IsKeptAs p goes.there h) (sym next.own)
        (rests_as p goes.there h next.rests.moved y (inside_test h p.harts inside) goes.agrees next.rests.rested
        (still_beyond p h behind goes.there goes.others.harts
        (still_beyond p h (full p d) behind stayed (full_beyond p d)))))
    | inr other ↦
        let apart : (g == h) ≡ false = grind (arith, nat_tests) in
        subst (IsKeptAs p goes.there g) (sym (next.others g other))
        (stays_as p h g behind goes.there (hart_at d.harts g) apart goes.others.harts
        (stays_as p h g (full p d) behind (hart_at d.harts g) apart stayed (full_as p d g)))
  ]

  pub settles_by : SettlesBy setup p (replicate steps h) behind (full p e)
  settles_by = record {
    settles = record {
      order = replicate steps h;
      there = goes.there;
      local = goes.local;
      alike = alike_by_harts p goes.there e kept (record {
        reserved = λ g matter. shared.reserved g (matters_there g matter);
        bytes = shared.bytes;
        output = shared.output;
      });
    };
    by = refl;
  }
