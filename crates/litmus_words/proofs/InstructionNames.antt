-- Each name is that of one instruction: a search of all names finds it.
use Rattle.std.proofs.Common.{◌≡◌, ℕ, Bool, true, false, if◌then◌else◌, List, [], ◌∷◌, ◌++◌, Option, Some, None}
use Rattle.std.proofs.Common.{refl, sym, ap, subst, ◌∙◌, inl, inr}
use Rattle.std.proofs.lemmas.Bool.{false≢true}
use Rattle.std.specs.{Prelude.codes, Prelude.map, List.flat_map}
use Rattle.rv_word.specs.declared.amo_kind.AmoKind.TheVariants as kinds
use Rattle.rv_instr.specs.declared.instr.Ordering.{Ordering}
use Rattle.rv_instr.specs.declared.instr.BranchOp.TheVariants.{Beq, Bne, Blt, Bge, Bltu, Bgeu}
use Rattle.rv_instr.specs.declared.instr.LoadOp.TheVariants.{Lb, Lh, Lw, Lbu, Lhu}
use Rattle.rv_instr.specs.declared.instr.StoreOp.TheVariants.{Sb, Sh, Sw}
use Rattle.rv_instr.specs.declared.instr.ImmediateOp.TheVariants.{Addi, Slti, Sltiu, Xori, Ori, Andi}
use Rattle.rv_instr.specs.declared.instr.ShiftOp.TheVariants.{Slli, Srli, Srai}
use Rattle.rv_instr.specs.declared.instr.RegisterOp.TheVariants.{Add, Sub, Sll, Slt, Sltu, Xor, Srl, Sra, Or, And}
use Rattle.rv_instr.specs.declared.instr.MulDivOp.TheVariants.{Mul, Mulh, Mulhsu, Mulhu, Div, Divu, Rem, Remu}
use Rattle.rv_text.specs.declared.mnemonic.{Mnemonic.Mnemonic as Row, AtomicOp.AtomicOp}
use Rattle.rv_text.specs.declared.mnemonic.Mnemonic.TheVariants as row_of
use Rattle.rv_text.specs.declared.mnemonic.AtomicOp.TheVariants.{LoadReserved, StoreConditional, Amo}
use Rattle.rv_text.specs.Mnemonic.{mnemonic_name, atomic_name}
use Rattle.litmus_words.specs.declared.mnemonic.Mnemonic.{Mnemonic}
use Rattle.litmus_words.specs.declared.mnemonic.Mnemonic.TheVariants as name
use Rattle.litmus_words.specs.Mnemonics.{HasDotBetween, IsNamed, IsNameOfRow, IsOfRow, IsOtherBranch, IsOtherName, IsRowNamed, is_taken}
use Rattle.litmus_words.proofs.Tables.{find, each_name, found_once, found_passes}

ordering_of : Bool → Bool → Ordering
ordering_of a r = record { aq = a; rl = r }

atomics : List AtomicOp
atomics = LoadReserved ∷ StoreConditional ∷ Amo kinds.Swap ∷ Amo kinds.Add ∷ Amo kinds.Xor ∷ Amo kinds.And
    ∷ Amo kinds.Or ∷ Amo kinds.Min ∷ Amo kinds.Max ∷ Amo kinds.Minu ∷ Amo kinds.Maxu ∷ []

plain_rows : List Row
plain_rows = row_of.Lui ∷ row_of.Auipc ∷ row_of.Jal ∷ row_of.Jalr ∷ row_of.Fence ∷ row_of.InstructionFence
    ∷ row_of.Ecall ∷ row_of.Ebreak ∷ row_of.Branch Beq ∷ row_of.Branch Bne ∷ row_of.Branch Blt ∷ row_of.Branch Bge
    ∷ row_of.Branch Bltu ∷ row_of.Branch Bgeu ∷ row_of.Load Lb ∷ row_of.Load Lh ∷ row_of.Load Lw ∷ row_of.Load Lbu
    ∷ row_of.Load Lhu ∷ row_of.Store Sb ∷ row_of.Store Sh ∷ row_of.Store Sw ∷ row_of.Immediate Addi
    ∷ row_of.Immediate Slti ∷ row_of.Immediate Sltiu ∷ row_of.Immediate Xori ∷ row_of.Immediate Ori
    ∷ row_of.Immediate Andi ∷ row_of.Shift Slli ∷ row_of.Shift Srli ∷ row_of.Shift Srai ∷ row_of.Register Add
    ∷ row_of.Register Sub ∷ row_of.Register Sll ∷ row_of.Register Slt ∷ row_of.Register Sltu ∷ row_of.Register Xor
    ∷ row_of.Register Srl ∷ row_of.Register Sra ∷ row_of.Register Or ∷ row_of.Register And ∷ row_of.MulDiv Mul
    ∷ row_of.MulDiv Mulh ∷ row_of.MulDiv Mulhsu ∷ row_of.MulDiv Mulhu ∷ row_of.MulDiv Div ∷ row_of.MulDiv Divu
    ∷ row_of.MulDiv Rem ∷ row_of.MulDiv Remu
    ∷ flat_map (λ op. row_of.Atomic op (ordering_of false false) ∷ row_of.Atomic op (ordering_of true false)
    ∷ row_of.Atomic op (ordering_of false true) ∷ row_of.Atomic op (ordering_of true true) ∷ []) atomics

pub rows : List (List ℕ × Row)
rows = map (λ row. (mnemonic_name row, row)) plain_rows
    ++ map (λ op. (atomic_name op ++ 46 ∷ codes "w.aq.rl", row_of.Atomic op (ordering_of true true))) atomics

atomic_found : (op : AtomicOp) (a r : Bool)
    → find rows (mnemonic_name (row_of.Atomic op (ordering_of a r))) ≡ Some (row_of.Atomic op (ordering_of a r))
unfolding find rows plain_rows atomics ordering_of
atomic_found (Amo kinds.Swap) false false = refl
atomic_found _ false false = refl
atomic_found (Amo kinds.Swap) false true = refl
atomic_found _ false true = refl
atomic_found (Amo kinds.Swap) true false = refl
atomic_found _ true false = refl
atomic_found (Amo kinds.Swap) true true = refl
atomic_found _ true true = refl

plain_found : (row : Row) → find rows (mnemonic_name row) ≡ Some row
unfolding find rows plain_rows
plain_found (row_of.Branch Beq) = refl
plain_found (row_of.Load Lb) = refl
plain_found (row_of.Store Sb) = refl
plain_found (row_of.Immediate Addi) = refl
plain_found (row_of.Shift Slli) = refl
plain_found (row_of.Register Add) = refl
plain_found (row_of.MulDiv Mul) = refl
plain_found (row_of.Atomic op ordering) = unfold ordering_of in atomic_found op ordering.aq ordering.rl
plain_found _ = refl

dotted_found : (op : AtomicOp) → find rows (atomic_name op ++ 46 ∷ codes "w.aq.rl")
    ≡ Some (row_of.Atomic op (ordering_of true true))
unfolding find rows plain_rows atomics ordering_of
dotted_found (Amo kinds.Swap) = refl
dotted_found _ = refl

with_bits : (op : AtomicOp) (a r : Bool) → a ≡ true → r ≡ true
    → find rows (atomic_name op ++ 46 ∷ codes "w.aq.rl") ≡ Some (row_of.Atomic op (ordering_of a r))
with_bits op true true ia ir = dotted_found op
with_bits op true false ia ir = absurd (false≢true ir)
with_bits op false true ia ir = absurd (false≢true ia)
with_bits op false false ia ir = absurd (false≢true ia)

dot_found : (text : List ℕ) (row : Row) → HasDotBetween text row → find rows text ≡ Some row
dot_found text (row_of.Atomic op ordering) (e, ia, ir) =
    ap (find rows) e ∙ unfold ordering_of in with_bits op ordering.aq ordering.rl ia ir
dot_found text _ h = absurd h

pub row_found : (text : List ℕ) (row : Row) → IsRowNamed text row → find rows text ≡ Some row
row_found text row (inl e) = ap (find rows) e ∙ plain_found row
row_found text row (inr h) = dot_found text row h

pub row_once : (text : List ℕ) (row other : Row) → IsRowNamed text row → IsRowNamed text other → row ≡ other
row_once text row other a b = found_once rows text row other (row_found text row a) (row_found text other b)

-- what a row is
of_row : Row → Option Mnemonic
of_row (row_of.Branch op) = Some (name.Branch op)
of_row row_of.Fence = Some name.Fence
of_row row_of.Jal = Some name.JumpAndLink
of_row row = if is_taken row then Some (name.Row row) else None

taken_is : (row : Row) → is_taken row ≡ true → of_row row ≡ Some (name.Row row)
unfolding of_row
taken_is (row_of.Branch op) e = absurd (false≢true e)
taken_is row_of.Fence e = absurd (false≢true e)
taken_is row_of.Jal e = absurd (false≢true e)
taken_is row_of.Auipc e = absurd (false≢true e)
taken_is row_of.Jalr e = absurd (false≢true e)
taken_is row_of.InstructionFence e = absurd (false≢true e)
taken_is row_of.Ecall e = absurd (false≢true e)
taken_is row_of.Ebreak e = absurd (false≢true e)
taken_is _ e = refl

of_row_is : (row : Row) (m : Mnemonic) → IsOfRow row m → of_row row ≡ Some m
unfolding of_row
of_row_is row (name.Row other) (e, taken) = taken_is row taken ∙ ap (λ (r : Row). Some (name.Row r)) e
of_row_is row (name.Branch op) e = ap of_row e
of_row_is row name.Fence e = ap of_row e
of_row_is row name.JumpAndLink e = ap of_row e
of_row_is row _ h = absurd h

-- what assemblers write beside
pub others : List (List ℕ × Mnemonic)
others = (codes "li", name.Constant) ∷ (codes "la", name.LoadAddress) ∷ (codes "mv", name.Move)
    ∷ (codes "nop", name.Nothing) ∷ (codes "j", name.Jump) ∷ (codes "fence.tso", name.TotalStoreOrderFence)
    ∷ (codes "beqz", name.BranchZero Beq) ∷ (codes "bnez", name.BranchZero Bne) ∷ (codes "bltz", name.BranchZero Blt)
    ∷ (codes "bgez", name.BranchZero Bge) ∷ (codes "bgtz", name.ZeroBranch Blt) ∷ (codes "blez", name.ZeroBranch Bge)
    ∷ (codes "bgt", name.SwappedBranch Blt) ∷ (codes "ble", name.SwappedBranch Bge)
    ∷ (codes "bgtu", name.SwappedBranch Bltu) ∷ (codes "bleu", name.SwappedBranch Bgeu) ∷ []

is_none : Option Row → Bool
is_none None = true
is_none (Some row) = false

no_row : List ℕ → Bool
no_row text = is_none (find rows text)

none_are_rows : each_name no_row others ≡ true
unfolding each_name no_row is_none find rows plain_rows atomics ordering_of others
none_are_rows = refl

some_is : (one text : List ℕ) → Some one ≡ Some text → text ≡ one
some_is one text e = cc

not_some : (text : List ℕ) → None ≡ Some text → ⊥
not_some text e = cc

other_found : (text : List ℕ) (m : Mnemonic) → IsOtherName text m → find others text ≡ Some m
unfolding find others
other_found text name.Constant e = ap (find others) e
other_found text name.LoadAddress e = ap (find others) e
other_found text name.Move e = ap (find others) e
other_found text name.Nothing e = ap (find others) e
other_found text name.Jump e = ap (find others) e
other_found text name.TotalStoreOrderFence e = ap (find others) e
other_found text _ h = absurd h

branch_found : (text : List ℕ) (m : Mnemonic) → IsOtherBranch text m → find others text ≡ Some m
unfolding find others
branch_found text (name.BranchZero Beq) e = ap (find others) (some_is _ text e)
branch_found text (name.BranchZero Bne) e = ap (find others) (some_is _ text e)
branch_found text (name.BranchZero Blt) e = ap (find others) (some_is _ text e)
branch_found text (name.BranchZero Bge) e = ap (find others) (some_is _ text e)
branch_found text (name.BranchZero _) e = absurd (not_some text e)
branch_found text (name.ZeroBranch Blt) e = ap (find others) (some_is _ text e)
branch_found text (name.ZeroBranch Bge) e = ap (find others) (some_is _ text e)
branch_found text (name.ZeroBranch _) e = absurd (not_some text e)
branch_found text (name.SwappedBranch Blt) e = ap (find others) (some_is _ text e)
branch_found text (name.SwappedBranch Bge) e = ap (find others) (some_is _ text e)
branch_found text (name.SwappedBranch Bltu) e = ap (find others) (some_is _ text e)
branch_found text (name.SwappedBranch Bgeu) e = ap (find others) (some_is _ text e)
branch_found text (name.SwappedBranch _) e = absurd (not_some text e)
branch_found text _ h = absurd h

apart : (text : List ℕ) (m other : Mnemonic) → find others text ≡ Some m → IsNameOfRow text other → ⊥
unfolding no_row is_none
apart text m other a b =
    let lacking : is_none (find rows text) ≡ true = found_passes no_row others text m none_are_rows a in
    false≢true (sym (ap is_none (row_found text b.row b.named)) ∙ lacking)

same_row : (text : List ℕ) (m other : Mnemonic) → IsNameOfRow text m → IsNameOfRow text other → m ≡ other
same_row text m other a b =
    let same = row_once text a.row b.row a.named b.named in
    let both : Some m ≡ Some other = sym (of_row_is a.row m a.is) ∙ ap of_row same ∙ of_row_is b.row other b.is in cc

pub instruction_once : (text : List ℕ) (m other : Mnemonic) → IsNamed text m → IsNamed text other → m ≡ other
instruction_once text m other (inl a) (inl b) =
    found_once others text m other (other_found text m a) (other_found text other b)
instruction_once text m other (inl a) (inr (inl b)) =
    found_once others text m other (other_found text m a) (branch_found text other b)
instruction_once text m other (inl a) (inr (inr b)) = absurd (apart text m other (other_found text m a) b)
instruction_once text m other (inr (inl a)) (inl b) =
    found_once others text m other (branch_found text m a) (other_found text other b)
instruction_once text m other (inr (inl a)) (inr (inl b)) =
    found_once others text m other (branch_found text m a) (branch_found text other b)
instruction_once text m other (inr (inl a)) (inr (inr b)) = absurd (apart text m other (branch_found text m a) b)
instruction_once text m other (inr (inr a)) (inl b) = absurd (apart text other m (other_found text other b) a)
instruction_once text m other (inr (inr a)) (inr (inl b)) = absurd (apart text other m (branch_found text other b) a)
instruction_once text m other (inr (inr a)) (inr (inr b)) = same_row text m other a b

-- what the row of a name isn't, the name isn't
pub no_instruction : (text : List ℕ) (row : Row) → ((m : Mnemonic) → IsOtherName text m → ⊥)
    → ((m : Mnemonic) → IsOtherBranch text m → ⊥) → IsRowNamed text row → ((m : Mnemonic) → IsOfRow row m → ⊥)
    → (m : Mnemonic) → IsNamed text m → ⊥
no_instruction text row none none' named none'' m (inl a) = none m a
no_instruction text row none none' named none'' m (inr (inl b)) = none' m b
no_instruction text row none none' named none'' m (inr (inr h)) =
    none'' m (subst (λ (r : Row). IsOfRow r m) (sym (row_once text row h.row named h.named)) h.is)

pub no_row_named : (text : List ℕ) → ((m : Mnemonic) → IsOtherName text m → ⊥)
    → ((m : Mnemonic) → IsOtherBranch text m → ⊥) → ((row : Row) → IsRowNamed text row → ⊥)
    → (m : Mnemonic) → IsNamed text m → ⊥
no_row_named text none none' none'' m (inl a) = none m a
no_row_named text none none' none'' m (inr (inl b)) = none' m b
no_row_named text none none' none'' m (inr (inr h)) = none'' h.row h.named

pub of_a_row : (text : List ℕ) (row : Row) → IsRowNamed text row → (m : Mnemonic) → IsOfRow row m → IsNamed text m
of_a_row text row named m is = inr (inr (record { row = row; named = named; is = is }))
