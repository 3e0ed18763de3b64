-- The registers of a hart, one by one, and what a step makes of a hart.
use Rattle.std.proofs.Common.{◌≡◌, ◌≢◌, ℕ, zero, suc, true, false, Option, get_or, replicate, refl, ap, ◌∙◌, arith}
use Rattle.std.specs.Prelude.{◌==◌, if◌then◌else◌, slice_index}
use Rattle.std.proofs.lemmas.Bool.Decides.{nat_tests}
use Rattle.smt_model.specs.Words.{Op, Effect}
use Rattle.smt_model.specs.{Kinds.destination, Nexts.pc_after}
use Rattle.smt_model.specs.Plain.{Plain, after, register_after, status_after}
use Rattle.sc_machine.specs.{Harts.HartAgrees, Harts.register_written, declared.hart.Hart.Hart}

pub all_zero : (n r : ℕ) → ◌≡◌ {A = ℕ} (get_or (replicate n 0) r 0) 0
all_zero zero r = refl
all_zero (suc n) zero = refl
all_zero (suc n) (suc r) = all_zero n r

-- A register is what the definitions say of it after a step of its hart.
own_register : (r rd before stored now : ℕ) (value : Option ℕ) → now ≡ register_written rd value r stored
    → stored ≡ (if r == 0 then 0 else before)
    → now ≡ (if r == 0 then 0 else (if r == rd then register_after value before else before))
own_register r rd before stored now value is was = grind (arith, nat_tests)

-- The hart that has made a step.
pub own_hart : (s : Plain) (h : ℕ) (op : Op) (addr : ℕ) (e : Effect) (x y : Hart) → HartAgrees s h x
    → ((r : ℕ) → slice_index y.registers r ≡ register_written (destination op) e.value r (slice_index x.registers r))
    → y.pc ≡ pc_after e.next x.pc → y.status ≡ status_after e.next x.status → HartAgrees (after s h op addr e) h y
own_hart s h op addr e x y is registers pc status =
    let here : (h == h) ≡ true = grind (arith, nat_tests) in
    record {
      registers = λ r below. rw here
          (own_register r (destination op) (s.registers h r) (slice_index x.registers r) (slice_index y.registers r)
          e.value (registers r) (is.registers r below));
      pc = rw here (pc ∙ ap (pc_after e.next) is.pc);
      status = rw here (status ∙ ap (status_after e.next) is.status);
    }

-- Any other hart.
pub other_hart : (s : Plain) (h g : ℕ) (op : Op) (addr : ℕ) (e : Effect) (x : Hart) → g ≢ h → HartAgrees s g x
    → HartAgrees (after s h op addr e) g x
other_hart s h g op addr e x other is =
    let there : (g == h) ≡ false = grind (arith, nat_tests) in
    record {
      registers = λ r below. rw there (is.registers r below);
      pc = rw there is.pc;
      status = rw there is.status;
    }
