-- What ends or stops its hart writes nothing.
use Rattle.std.proofs.Common.{◌≡◌, ◌∙◌, ℕ, Bool, true, false, None, refl, sym, ap, inl, inr, arith}
use Rattle.std.proofs.lemmas.Bool.{cases_Bool}
use Rattle.elf_image.specs.Image.{ProgramImage}
use Rattle.smt_model.specs.Words.{Op, Effect}
use Rattle.smt_model.specs.{Exec.Computed, Nexts.is_last, Faults.fault, Effects.effect_by, Effects.effect_of}
use Rattle.smt_model.specs.Kinds.{Kind, Computing, Loading, Storing, Reserving, Conditional, Atomic, kind_of}
use Rattle.smt_model.specs.Kinds.{writes_register}
use Rattle.sc_machine.specs.Access.{HasNoFault, WritesAlone}

next_done : (kind : Kind) (op : Op) (writes : Bool) (c : Computed) (now : ℕ) (held : Bool)
    → (effect_by kind op writes c now held).next ≡ c.next
next_done Computing op writes c now held = refl
next_done Loading op writes c now held = refl
next_done Storing op writes c now held = refl
next_done Reserving op writes c now held = refl
next_done Conditional op writes c now held = refl
next_done Atomic op writes c now held = refl

goes : (op : Op) (c : Computed) (now : ℕ) (held : Bool) → is_last c.next ≡ false
    → is_last (effect_of op c now held).next ≡ false
goes op c now held going = rw going (ap is_last (next_done (kind_of op) op (writes_register op) c now held) ∙ going)

pub writes_alone : (op : Op) (c : Computed) (now : ℕ) (held : Bool) → WritesAlone (effect_of op c now held)
writes_alone op c now held = elim (cases_Bool (is_last c.next)) [
  | inl last ↦ λ ends. rw last refl
  | inr going ↦ λ ends. absurd (let goes_on = goes op c now held going in grind (arith, ends, goes_on))
]

-- What goes on afterwards has no fault.
pub unfaulted : (image : ProgramImage) (op : Op) (c : Computed) (now : ℕ) (held : Bool) (x : Effect)
    → x ≡ effect_of op c now held → HasNoFault image op c → is_last x.next ≡ false → fault image op c.addr ≡ None
unfaulted image op c now held x is has_none going = elim (cases_Bool (is_last c.next)) [
  | inl last ↦ absurd (let same : is_last x.next ≡ true = rw (is, last) last in grind (arith, same, going))
  | inr goes_on ↦ has_none goes_on
]
