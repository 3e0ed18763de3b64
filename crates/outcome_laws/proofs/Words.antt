-- What an instruction accesses lies in one aligned word.
use Rattle.std.specs.Prelude.{◌≡◌, ◌⊎◌, ℕ, ◌+◌, ◌%◌, ◌≤◌, ◌<◌, Bool, true, false, not, ◌==◌}
use Rattle.std.specs.Prelude.{if◌then◌else◌, Option, Some, None}
use Rattle.std.specs.Prelude.{option_map, unwrap_or}
use Rattle.std.proofs.Common.{refl, sym, ap, subst, inl, inr, arith}
use Rattle.std.proofs.{lemmas.Bool.cases_Bool, lemmas.Bool.Decides.nat_tests}
use Rattle.elf_image.specs.Image.{ProgramImage}
use Rattle.rv_instr.specs.{declared.op.Op.Op, declared.op.Op.TheVariants.Known, declared.op.Op.TheVariants.Illegal}
use Rattle.rv_instr.specs.{declared.op.Op.TheVariants.NoWord, declared.instr.Instr.Instr}
use Rattle.rv_instr.specs.declared.instr.Instr.TheVariants.{Load, Store}
use Rattle.rv_instr.specs.{declared.instr.LoadOp.LoadOp, declared.instr.StoreOp.StoreOp}
use Rattle.rv_instr.specs.declared.instr.StoreOp.TheVariants.{Sb, Sh, Sw}
use Rattle.rv_instr.specs.declared.instr.LoadOp.TheVariants.{Lb, Lh, Lw, Lbu, Lhu}
use Rattle.events.specs.{declared.effect.Next.Next}
use Rattle.events.specs.{declared.effect.Next.TheVariants.Stopped}
use Rattle.smt_model.specs.{Setup.Setup, Exec.Computed, Exec.exec, Nexts.is_last}
use Rattle.smt_model.specs.Reservations.{word_of_address}
use Rattle.smt_model.specs.Faults.{fault, fault_of, checked}
use Rattle.smt_model.specs.Kinds.{Kind, Computing, Loading, Storing, Reserving, Conditional, Atomic, kind_of}
use Rattle.smt_model.specs.Kinds.{access_size, is_loading, is_storing, touches_memory, load_size}
use Rattle.smt_model.specs.Kinds.{store_size, first_source, second_source}
use Rattle.smt_model.specs.Plain.{Plain, op_at_pc, computes, read_register}

-- ---- Words

-- All n bytes from an address are in its word.
abbrev pub LiesInWord : ℕ → ℕ → Type 0
LiesInWord addr n = (a : ℕ) → addr ≤ a → a < addr + n → word_of_address a ≡ word_of_address addr

one_lies : (addr : ℕ) → LiesInWord addr 1
one_lies addr a from below = let is : a ≡ addr = omega arith in ap word_of_address is

two_lie : (addr : ℕ) → (addr % 2 == 0) ≡ true → LiesInWord addr 2
two_lie addr even a from below = let is : addr % 2 ≡ 0 = grind (arith, nat_tests) in omega arith

four_lie : (addr : ℕ) → (addr % 4 == 0) ≡ true → LiesInWord addr 4
four_lie addr even a from below = let is : addr % 4 ≡ 0 = grind (arith, nat_tests) in omega arith

-- How many bytes an access moves.
abbrev IsSize : ℕ → Type 0
IsSize n = (n ≡ 1) ⊎ ((n ≡ 2) ⊎ (n ≡ 4))

load_sized : (op : LoadOp) → IsSize (load_size op)
load_sized Lb = inl refl
load_sized Lh = inr (inl refl)
load_sized Lw = inr (inr refl)
load_sized Lbu = inl refl
load_sized Lhu = inr (inl refl)

store_sized : (op : StoreOp) → IsSize (store_size op)
store_sized Sb = inl refl
store_sized Sh = inr (inl refl)
store_sized Sw = inr (inr refl)

instr_sized : (i : Instr) → IsSize (access_size (Known i))
unfolding access_size
instr_sized (Load op _ _ _) = load_sized op
instr_sized (Store op _ _ _) = store_sized op
instr_sized _ = inr (inr refl)

sized : (op : Op) → IsSize (access_size op)
unfolding access_size
sized (Known i) = instr_sized i
sized Illegal = inr (inr refl)
sized NoWord = inr (inr refl)

aligned_lies : (addr n : ℕ) → IsSize n → (addr % n == 0) ≡ true → LiesInWord addr n
aligned_lies addr n (inl one) even = subst (LiesInWord addr) (sym one) (one_lies addr)
aligned_lies addr n (inr (inl two)) even =
    subst (LiesInWord addr) (sym two) (two_lie addr (subst (λ k. (addr % k == 0) ≡ true) two even))
aligned_lies addr n (inr (inr four)) even =
    subst (LiesInWord addr) (sym four) (four_lie addr (subst (λ k. (addr % k == 0) ≡ true) four even))

-- ---- What is accessed lies in a word

word_moved_by : (i : Instr) → is_loading (kind_of (Known i)) ≡ false → is_storing (kind_of (Known i)) ≡ false
    → access_size (Known i) ≡ 4
unfolding kind_of access_size
word_moved_by (Load _ _ _ _) loads stores = absurd (grind arith)
word_moved_by (Store _ _ _ _) loads stores = absurd (grind arith)
word_moved_by _ loads stores = refl

-- What is neither a load nor a store moves a word.
pub word_moved : (op : Op) → is_loading (kind_of op) ≡ false → is_storing (kind_of op) ≡ false → access_size op ≡ 4
unfolding access_size
word_moved (Known i) loads stores = word_moved_by i loads stores
word_moved Illegal loads stores = refl
word_moved NoWord loads stores = refl

even_by : (even : Bool) (cause : ℕ) (rest : Option ℕ) → (if not even then Some cause else rest) ≡ None → even ≡ true
even_by true cause rest none = refl
even_by false cause rest none = absurd (grind arith)

-- An access without a fault is aligned.
even_kind : (kind : Kind) (image : ProgramImage) (addr n : ℕ) → touches_memory kind ≡ true
    → fault_of kind image addr n ≡ None → (addr % n == 0) ≡ true
even_kind Computing image addr n touches none = absurd (grind arith)
even_kind Loading image addr n touches none = even_by (addr % n == 0) 4 _ none
even_kind Storing image addr n touches none = even_by (addr % n == 0) 6 _ none
even_kind Reserving image addr n touches none = even_by (addr % n == 0) 4 _ none
even_kind Conditional image addr n touches none = even_by (addr % n == 0) 6 _ none
even_kind Atomic image addr n touches none = even_by (addr % n == 0) 6 _ none

-- What goes on has no fault.
fault_none : (cause : Option ℕ) (next : Next) → is_last (unwrap_or (option_map Stopped cause) next) ≡ false
    → cause ≡ None
fault_none None next going = refl
fault_none (Some cause) next going = absurd (grind arith)

checked_fault : (image : ProgramImage) (op : Op) (c : Computed) → is_last (checked image op c).next ≡ false
    → fault image op (checked image op c).addr ≡ None
unfolding checked
checked_fault image op c going =
    elim (cases_Bool (is_last c.next)) [
      | inl last ↦ absurd (let same : is_last c.next ≡ false = rw last at going in grind arith)
      | inr on ↦
          let same : is_last (unwrap_or (option_map Stopped (fault image op c.addr)) c.next) ≡ false =
          rw on at going in
          rw on (fault_none (fault image op c.addr) c.next same)
    ]

-- If the instruction goes on and accesses memory, its access lies in a word.
abbrev pub AccessLies : Op → Computed → Type 0
AccessLies op c = is_last c.next ≡ false → touches_memory (kind_of op) ≡ true → LiesInWord c.addr (access_size op)

checked_lies : (image : ProgramImage) (op : Op) (c : Computed) → AccessLies op (checked image op c)
unfolding fault
checked_lies image op c going touches =
    aligned_lies (checked image op c).addr (access_size op) (sized op)
    (even_kind (kind_of op) image (checked image op c).addr (access_size op) touches (checked_fault image op c going))

pub access_lies : (setup : Setup) (s : Plain) (h : ℕ) → AccessLies (op_at_pc setup s h) (computes setup s h)
access_lies setup s h =
    let op = op_at_pc setup s h in
    checked_lies setup.image op
    (exec op (s.pcs h) (read_register s h (first_source op)) (read_register s h (second_source op)))
