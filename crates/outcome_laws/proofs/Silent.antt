-- What an instruction says that neither touches memory nor puts a byte out, or ends its hart.
use Rattle.std.specs.Prelude.{◌≡◌, ℕ, Bool, true, false, if◌then◌else◌, Option, None, is_some}
use Rattle.std.proofs.Common.{refl, inl, inr, arith}
use Rattle.std.proofs.{lemmas.Bool.cases_Bool}
use Rattle.rv_instr.specs.declared.op.Op.{Op}
use Rattle.events.specs.{declared.effect.Effect.Effect}
use Rattle.smt_model.specs.{Exec.Computed, Nexts.is_last, Effects.effect_of, Effects.effect_by}
use Rattle.smt_model.specs.Kinds.{Kind, Computing, Loading, Storing, Reserving, Conditional, Atomic, kind_of}
use Rattle.smt_model.specs.Kinds.{touches_memory, writes_register}
use Rattle.smt_model.specs.Reservations.{own_reservation, reservation_after}
use Rattle.smt_laws.proofs.{Registers.Reading.effect-next}
use Rattle.outcome_laws.specs.Local.{is_silent}
use Rattle.outcome_laws.proofs.Facts.{neither, none_put}

-- An effect that writes nothing, puts nothing out, and leaves every reservation.
pub record IsQuiet (op : Op) (addr : ℕ) (x : Effect) : Type 0 where
  pub write : x.write ≡ None
  pub out : x.out ≡ None
  pub reserved : (own : Bool) (held : Option ℕ) → reservation_after op addr x own held ≡ held

-- By kind: the only one that doesn't touch memory computes alone.
record IsCalm (kind : Kind) (op : Op) (writes : Bool) (c : Computed) : Type 0 where
  write : (now : ℕ) (held : Bool) → (effect_by kind op writes c now held).write ≡ None
  out : (now : ℕ) (held : Bool) → (effect_by kind op writes c now held).out ≡ None
  same : (now now2 : ℕ) (held held2 : Bool)
      → effect_by kind op writes c now held ≡ effect_by kind op writes c now2 held2
  own : (addr : ℕ) (held : Option ℕ) → own_reservation kind addr held ≡ held

calm : (kind : Kind) (op : Op) (writes : Bool) (c : Computed) → touches_memory kind ≡ false → c.out ≡ None
    → IsCalm kind op writes c
calm Computing op writes c apart none = record {
  write = λ now held. refl;
  out = λ now held. none;
  same = λ now now2 held held2. refl;
  own = λ addr held. refl;
}
calm Loading op writes c apart none = absurd (grind arith)
calm Storing op writes c apart none = absurd (grind arith)
calm Reserving op writes c apart none = absurd (grind arith)
calm Conditional op writes c apart none = absurd (grind arith)
calm Atomic op writes c apart none = absurd (grind arith)

if_held : (test : Bool) (held : Option ℕ) → (if test then held else held) ≡ held
if_held true held = refl
if_held false held = refl

-- What is silent says the same, whatever memory and reservations are, and says nothing of them.
pub record IsSilentStep (op : Op) (c : Computed) : Type 0 where
  pub same : (now now2 : ℕ) (held held2 : Bool) → effect_of op c now held ≡ effect_of op c now2 held2
  pub quiet : (addr now : ℕ) (held : Bool) → IsQuiet op addr (effect_of op c now held)

last_step : (op : Op) (c : Computed) → is_last c.next ≡ true → IsSilentStep op c
last_step op c last = record {
  same = λ now now2 held held2. rw last refl;
  quiet = λ addr now held. record {
    write = rw last refl;
    out = rw last refl;
    reserved = λ own kept. rw (effect-next op c now held, last) refl;
  };
}

calm_step : (op : Op) (c : Computed) → is_last c.next ≡ false → IsCalm (kind_of op) op (writes_register op) c
    → IsSilentStep op c
calm_step op c going is = record {
  same = λ now now2 held held2. rw going (is.same now now2 held held2);
  quiet = λ addr now held. record {
    write = rw going (is.write now held);
    out = rw going (is.out now held);
    reserved = λ own kept.
        rw (effect-next op c now held, going)
        (rw (is.write now held) (rw (is.own addr kept) (if_held own kept)));
  };
}

pub silent_step : (op : Op) (c : Computed) → is_silent op c ≡ true → IsSilentStep op c
silent_step op c silent =
    elim (cases_Bool (is_last c.next)) [
      | inl last ↦ last_step op c last
      | inr going ↦
          let both = neither (touches_memory (kind_of op)) (is_some c.out) (rw going at silent) in
          calm_step op c going (calm (kind_of op) op (writes_register op) c both.0 (none_put c.out both.1))
    ]
