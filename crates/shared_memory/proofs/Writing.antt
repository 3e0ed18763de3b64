-- What an instruction writes whose access has no fault can be written: it is of a size that a store has.
use Rattle.std.specs.Prelude.{◌≡◌, ℕ, Bool, true, false, Some, None, IfSome, if◌then◌else◌}
use Rattle.std.proofs.Common.{refl, ap, subst, inl, inr, arith}
use Rattle.std.proofs.lemmas.Bool.{cases_Bool}
use Rattle.elf_image.specs.Image.{ProgramImage}
use Rattle.events.specs.declared.effect.Written.{Written}
use Rattle.rv_instr.specs.{declared.op.Op.Op, declared.op.Op.TheVariants.Known, declared.op.Op.TheVariants.Illegal}
use Rattle.rv_instr.specs.{declared.op.Op.TheVariants.NoWord, declared.instr.Instr.Instr}
use Rattle.rv_instr.specs.{declared.instr.LoadOp.LoadOp, declared.instr.StoreOp.StoreOp}
use Rattle.rv_instr.specs.declared.instr.Instr.TheVariants.{Load, Store}
use Rattle.rv_instr.specs.declared.instr.LoadOp.TheVariants.{Lb, Lh, Lw, Lbu, Lhu}
use Rattle.rv_instr.specs.declared.instr.StoreOp.TheVariants.{Sb, Sh, Sw}
use Rattle.smt_model.specs.{Exec.Computed, Effects.effect_by, Effects.effect_of, Nexts.is_last}
use Rattle.smt_model.specs.Faults.{fault, fault_of, write_fault}
use Rattle.smt_model.specs.Kinds.{Kind, Computing, Loading, Storing, Reserving, Conditional, Atomic}
use Rattle.smt_model.specs.Kinds.{kind_of, access_size, load_size, store_size, is_loading, is_storing, writes_register}
use Rattle.rv_execute.specs.Access.{IsSize}
use Rattle.shared_memory.specs.Contents.{CanWrite}

-- ---- Sizes

loaded : (op : LoadOp) → IsSize (load_size op)
loaded Lb = inl refl
loaded Lh = inr (inl refl)
loaded Lw = inr (inr refl)
loaded Lbu = inl refl
loaded Lhu = inr (inl refl)

stored : (op : StoreOp) → IsSize (store_size op)
stored Sb = inl refl
stored Sh = inr (inl refl)
stored Sw = inr (inr refl)

sized_known : (i : Instr) → IsSize (access_size (Known i))
unfolding access_size
sized_known (Load op _ _ _) = loaded op
sized_known (Store op _ _ _) = stored op
sized_known _ = inr (inr refl)

sized : (op : Op) → IsSize (access_size op)
unfolding access_size
sized (Known i) = sized_known i
sized Illegal = inr (inr refl)
sized NoWord = inr (inr refl)

word_known : (i : Instr) → is_loading (kind_of (Known i)) ≡ false → is_storing (kind_of (Known i)) ≡ false
    → access_size (Known i) ≡ 4
unfolding kind_of access_size
word_known (Load _ _ _ _) loads stores = absurd (grind arith)
word_known (Store _ _ _ _) loads stores = absurd (grind arith)
word_known _ loads stores = refl

-- What is neither a load nor a store moves a word.
word : (op : Op) → is_loading (kind_of op) ≡ false → is_storing (kind_of op) ≡ false → access_size op ≡ 4
unfolding access_size
word (Known i) loads stores = word_known i loads stores
word Illegal loads stores = refl
word NoWord loads stores = refl

-- ---- The write

held_write : (image : ProgramImage) (held : Bool) (w : Written) → CanWrite image w
    → IfSome (if held then Some w else None) (CanWrite image)
held_write image true w can = can
held_write image false w can = tt

written_by : (k : Kind) (image : ProgramImage) (op : Op) (c : Computed) (now : ℕ) (held : Bool) → kind_of op ≡ k
    → fault_of k image c.addr (access_size op) ≡ None
    → IfSome (effect_by k op (writes_register op) c now held).write (CanWrite image)
written_by Computing image op c now held is none = tt
written_by Loading image op c now held is none = tt
written_by Storing image op c now held is none = record { size = sized op; no_fault = none }
written_by Reserving image op c now held is none = tt
written_by Conditional image op c now held is none =
    held_write image held _ (record {
      size = inr (inr refl);
      no_fault = subst (λ n. write_fault image c.addr n ≡ None) (word op (ap is_loading is) (ap is_storing is)) none;
    })
written_by Atomic image op c now held is none = record {
  size = inr (inr refl);
  no_fault = subst (λ n. write_fault image c.addr n ≡ None) (word op (ap is_loading is) (ap is_storing is)) none;
}

pub can_write : (image : ProgramImage) (op : Op) (c : Computed) (now : ℕ) (held : Bool)
    → (is_last c.next ≡ false → fault image op c.addr ≡ None)
    → IfSome (effect_of op c now held).write (CanWrite image)
unfolding fault
can_write image op c now held none = elim (cases_Bool (is_last c.next)) [
  | inl last ↦ rw last tt
  | inr going ↦ rw going (written_by (kind_of op) image op c now held refl (none going))
]
