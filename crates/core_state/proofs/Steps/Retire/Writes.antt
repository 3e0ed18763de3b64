-- What a retirement writes can be written: it is of a size that a store has, and has no fault.
use Rattle.std.specs.Prelude.{◌≡◌, ℕ, Bool, true, false, Option, Some, None, IfSome, option_map, unwrap_or}
use Rattle.std.proofs.Common.{refl, sym, subst, inl, inr, arith}
use Rattle.std.proofs.lemmas.Bool.{cases_Bool}
use Rattle.elf_image.specs.Image.{ProgramImage}
use Rattle.events.specs.{declared.effect.Next.Next, declared.effect.Next.TheVariants.Stopped}
use Rattle.rv_instr.specs.declared.op.Op.{Op}
use Rattle.smt_model.specs.{Exec.Computed, Effects.effect_of, Nexts.is_last, Faults.checked, Faults.fault}
use Rattle.shared_memory.specs.Contents.{CanWrite}
use Rattle.shared_memory.proofs.Writing as writing
use Rattle.core_state.proofs.Steps.Complete.Look.{checked-address}

no_cause : (cause : Option ℕ) (next : Next) → is_last (unwrap_or (option_map Stopped cause) next) ≡ false
    → cause ≡ None
no_cause None next going = refl
no_cause (Some n) next going = absurd (grind arith)

-- One that goes on has no fault.
faultless : (image : ProgramImage) (op : Op) (c : Computed) → is_last (checked image op c).next ≡ false
    → fault image op c.addr ≡ None
unfolding checked
faultless image op c going = elim (cases_Bool (is_last c.next)) [
  | inl last ↦ absurd (let ends : is_last (checked image op c).next ≡ true = rw last last in grind (arith, ends))
  | inr on ↦ no_cause (fault image op c.addr) c.next (rw on at going)
]

pub can_write : (image : ProgramImage) (op : Op) (c : Computed) (now : ℕ) (held : Bool)
    → IfSome (effect_of op (checked image op c) now held).write (CanWrite image)
can_write image op c now held =
    writing.can_write image op (checked image op c) now held
    (λ going. subst (λ addr. fault image op addr ≡ None) (sym (checked-address image op c)) (faultless image op c going))
