-- x0 stays 0 under what is said of each state.
use Rattle.std.proofs.Common.{◌≡◌, ℕ, ◌<◌, ◌+◌, Bool, [], refl, sym, subst, ◌∙◌, arith}
use Rattle.std.specs.Prelude.{◌==◌, if◌then◌else◌, slice_index}
use Rattle.std.proofs.lemmas.Bool.Decides.{nat_tests}
use Rattle.elf_image.specs.Image.{ProgramImage}
use Rattle.smt_model.specs.{Setup.Setup, Plain.Plain}
use Rattle.sc_machine.specs.{Harts.HartAgrees, declared.hart.Hart.Hart}
use Rattle.changed_memory.specs.Shared.{Shared, byte_at, reserved_at}
use Rattle.condensed_machine.specs.{Machine.Program, Machine.tables_of, Executing.ComesToRest}
use Rattle.condensed_machine.specs.Executing.{InEachState, IsBehind, SharedAgrees}
use Rattle.condensed_machine.proofs.Instructions.{has_targets}

-- A setup with an image, and a state in which hart 0 is x.
abbrev some_setup : ProgramImage → ℕ → Setup
some_setup image h = record { image = image; harts = h + 1; extra = 0; queue = 0; roles = [] }

abbrev some_state : ProgramImage → Hart → Shared → Plain
some_state image x shared = record {
  registers = λ h r. slice_index x.registers r;
  pcs = λ h. x.pc;
  statuses = λ h. x.status;
  reserved = reserved_at shared;
  bytes = byte_at image shared;
  output = shared.output;
}

reads_zero : (r n : ℕ) → (r ≡ 0 → n ≡ 0) → n ≡ (if r == 0 then 0 else n)
reads_zero r n zero = grind (arith, nat_tests)

some_agrees : (image : ProgramImage) (x : Hart) (shared : Shared) (h : ℕ) → slice_index x.registers 0 ≡ 0
    → HartAgrees (some_state image x shared) h x
some_agrees image x shared h zero = record {
  registers = λ r below.
      reads_zero r (slice_index x.registers r)
      (λ is. subst (λ (k : ℕ). slice_index x.registers k ≡ 0) (sym is) zero);
  pc = refl;
  status = refl;
}

pub zero_behind : (p : Program) (h : ℕ) (x y : Hart) (shared : Shared)
    → InEachState p h x shared (λ setup s. IsBehind setup s h y) → slice_index x.registers 0 ≡ 0
    → slice_index y.registers 0 ≡ 0
zero_behind p h x y shared behind zero =
    let s = some_state p.image x shared in
    let inside : h < h + 1 = omega arith in
    let agrees : SharedAgrees p.image s shared =
    record { reserved = λ g. refl; bytes = λ a. refl; output = refl } in
    (behind (some_setup p.image h) s refl inside (some_agrees p.image x shared h zero) agrees).registers 0 (omega arith)

pub zero_rests : (p : Program) (free : Bool) (x y : Hart) (steps : ℕ) → ComesToRest p free x steps y
    → slice_index x.registers 0 ≡ 0 → slice_index y.registers 0 ≡ 0
zero_rests p free x y steps rests zero =
    let none : Shared = record { changes = []; reserved = []; output = [] } in
    let inside : 0 < 1 = omega arith in
    let goes =
    rests.settles.leads (some_setup p.image 0) (tables_of p) 0 (some_state p.image x none) (has_targets p) refl inside
    (λ fixed pc. refl)
    (some_agrees p.image x none 0 zero) (λ is. refl) in
    rests.rested.zero ∙ goes.agrees.registers 0 (omega arith)
