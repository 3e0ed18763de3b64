-- When the definitions' machine makes a step, and when the machine refuses one.
use Rattle.std.proofs.Common.{◌≡◌, ℕ, Bool, true, false, Option, Some, None, length, refl, ap, ◌∙◌}
use Rattle.std.specs.Prelude.{not, ◌&&◌, if◌then◌else◌, nat_lt, nat_le, is_some}
use Rattle.smt_model.specs.Setup.{Setup}
use Rattle.smt_model.specs.Words.{Record}
use Rattle.smt_model.specs.Plain.{Plain, Run, after, advance, op_at_pc, computes, effect_at, is_going_status, step}
use Rattle.sc_machine.specs.{Machine.Machine, Machine.Agrees, Execution.IsExecution}
use Rattle.sc_machine.specs.{declared.execution.Execution.Execution}
use Rattle.sc_machine.specs.Refusals.{refusal}
use Rattle.sc_machine.specs.declared.refused.Stopped.{Stopped}
use Rattle.sc_machine.specs.declared.refused.Stopped.TheVariants.{NotGoing, OutputFull, NoHart}

-- The refusal of a hart by three tests: it is there, it goes, its byte has no room.
abbrev refused_by : Bool → Bool → Bool → Option Stopped
refused_by there goes full =
    if not there then Some NoHart else (if not goes then Some NotGoing else (if full then Some OutputFull else None))

not_going : (there goes full : Bool) → there ≡ true → goes ≡ false → refused_by there goes full ≡ Some NotGoing
not_going there goes full is stands = rw (is, stands) refl

is_full : (there goes full : Bool) → there ≡ true → goes ≡ true → full ≡ true
    → refused_by there goes full ≡ Some OutputFull
is_full there goes full is on blocked = rw (is, on, blocked) refl

is_free : (there goes full : Bool) → there ≡ true → goes ≡ true → full ≡ false → refused_by there goes full ≡ None
is_free there goes full is on free = rw (is, on, free) refl

taken : {A : Type 0} (there goes : Bool) (x : Option A) → there ≡ true → goes ≡ true
    → (if there && goes then x else None) ≡ x
taken there goes x is on = rw (is, on) refl

-- Whether hart h's byte has no room.
abbrev pub is_blocked : Setup → ℕ → Plain → ℕ → Bool
is_blocked setup room s h = is_some (effect_at setup s h).out && nat_le room (length s.output)

module _ (setup : Setup) (room : ℕ) (s : Plain) (h : ℕ) (there : nat_lt h setup.harts ≡ true) where
  pub refused_standing : is_going_status (s.statuses h) ≡ false → refusal setup room s h ≡ Some NotGoing
  refused_standing stands = not_going _ (is_going_status (s.statuses h)) (is_blocked setup room s h) there stands

  pub refused_full : is_going_status (s.statuses h) ≡ true → is_blocked setup room s h ≡ true
      → refusal setup room s h ≡ Some OutputFull
  refused_full goes blocked =
      is_full (nat_lt h setup.harts) (is_going_status (s.statuses h)) (is_blocked setup room s h) there goes blocked

  pub not_refused : is_going_status (s.statuses h) ≡ true → is_blocked setup room s h ≡ false
      → refusal setup room s h ≡ None
  not_refused goes free =
      is_free (nat_lt h setup.harts) (is_going_status (s.statuses h)) (is_blocked setup room s h) there goes free

pub made : (setup : Setup) (h : ℕ) (before : Run) → nat_lt h setup.harts ≡ true
    → is_going_status (before.state.statuses h) ≡ true → step setup h (Some before) ≡ Some (advance setup h before)
made setup h before there goes =
    taken (nat_lt h setup.harts) (is_going_status (before.state.statuses h)) (Some (advance setup h before)) there goes

-- What the machine finds of an instruction is what the definitions' machine finds.
pub blocked_same : (setup : Setup) (s : Plain) (m : Machine) (h : ℕ) (e : Execution) → Agrees setup s m
    → IsExecution setup s h e
    → (is_some e.record.effect.out && nat_le m.room (length m.output)) ≡ is_blocked setup m.room s h
blocked_same setup s m h e agrees is =
    ap (λ (r : Record). is_some r.effect.out && nat_le m.room (length m.output)) is.said
    ∙ ap (λ xs. is_some (effect_at setup s h).out && nat_le m.room (length xs)) agrees.output

pub after_same : (setup : Setup) (before : Run) (h : ℕ) (e : Execution) → IsExecution setup before.state h e
    → after before.state h e.op e.addr e.record.effect ≡ (advance setup h before).state
after_same setup before h e is =
    let s = before.state in
    ap (λ op. after s h op e.addr e.record.effect) is.op
    ∙ ap (λ addr. after s h (op_at_pc setup s h) addr e.record.effect) is.addr
    ∙ ap (λ (r : Record). after s h (op_at_pc setup s h) (computes setup s h).addr r.effect) is.said
