-- The whole text: where its name ends, and the two laws of reading.
use Rattle.std.proofs.Common.{◌≡◌, ℕ, ◌+◌, ◌^◌, ◌<◌, Bool, true, false, not, ◌==◌, List, [], ◌∷◌, ◌++◌, length, Result}
use Rattle.std.proofs.Common.{Ok, Err, refl, sym, ◌∙◌, ap, arith}
use Rattle.std.specs.{Prelude.IfOk, List.prefix_len, List.list_all}
use Rattle.std.proofs.{lemmas.Bool.and_parts, lemmas.List.take_at, lemmas.List.drop_at, lemmas.List.take-append-drop}
use Rattle.rv_word.specs.declared.amo_kind.AmoKind.TheVariants as kinds
use Rattle.rv_instr.specs.{declared.instr.BranchOp.TheVariants.Beq, declared.instr.LoadOp.TheVariants.Lb}
use Rattle.rv_instr.specs.{declared.instr.StoreOp.TheVariants.Sb, declared.instr.ImmediateOp.TheVariants.Addi}
use Rattle.rv_instr.specs.{declared.instr.ShiftOp.TheVariants.Slli, declared.instr.RegisterOp.TheVariants.Add}
use Rattle.rv_instr.specs.{declared.instr.MulDivOp.TheVariants.Mul, declared.instr.Instr.Instr}
use Rattle.rv_instr.specs.declared.instr.Instr.TheVariants as instr
use Rattle.rv_text.specs.{declared.refused.TextRefused.TextRefused}
use Rattle.rv_text.specs.{declared.mnemonic.Mnemonic.Mnemonic}
use Rattle.rv_text.specs.{declared.mnemonic.AtomicOp.AtomicOp, declared.mnemonic.AtomicOp.TheVariants.Amo}
use Rattle.rv_text.specs.{Mnemonic.mnemonic_name, Mnemonic.atomic_name, Mnemonic.width_and_bits}
use Rattle.rv_text.specs.{Reading.name_in, Reading.behind_name, Reading.instr_at}
use Rattle.rv_text.specs.declared.mnemonic.Mnemonic.TheVariants.{Branch, Load, Store, Immediate, Shift, Register}
use Rattle.rv_text.specs.declared.mnemonic.Mnemonic.TheVariants.{MulDiv, Atomic}
use Rattle.rv_text.specs.Spelling.{mnemonic_of, register_text, operands_of, spelling_of, Says}
use Rattle.rv_text.proofs.{InstrLaws.instr_takes, InstrLaws.instr_again, Names.name_of-injective}

-- ---- no name has a space, and operands begin with one

abbrev is_no_space : ℕ → Bool
is_no_space c = not (c == 32)

abbrev IsSpaceless : List ℕ → Type 0
IsSpaceless text = list_all is_no_space text ≡ true

spaceless_bits : (a r : Bool) → IsSpaceless (width_and_bits a r)
spaceless_bits false false = refl
spaceless_bits true false = refl
spaceless_bits false true = refl
spaceless_bits true true = refl

spaceless_atomic : (op : AtomicOp) (a r : Bool) → IsSpaceless (atomic_name op ++ 46 ∷ width_and_bits a r)
spaceless_atomic (Amo kinds.Swap) a r = spaceless_bits a r
spaceless_atomic (Amo _) a r = spaceless_bits a r
spaceless_atomic _ a r = spaceless_bits a r

spaceless : (m : Mnemonic) → IsSpaceless (mnemonic_name m)
spaceless (Branch Beq) = refl
spaceless (Branch _) = refl
spaceless (Load Lb) = refl
spaceless (Load _) = refl
spaceless (Store Sb) = refl
spaceless (Store _) = refl
spaceless (Immediate Addi) = refl
spaceless (Immediate _) = refl
spaceless (Shift Slli) = refl
spaceless (Shift _) = refl
spaceless (Register Add) = refl
spaceless (Register _) = refl
spaceless (MulDiv Mul) = refl
spaceless (MulDiv _) = refl
spaceless (Atomic op ordering) = spaceless_atomic op ordering.aq ordering.rl
spaceless _ = refl

operands_apart : (pc : ℕ) (i : Instr) → prefix_len is_no_space (operands_of i pc) ≡ 0
unfolding register_text
operands_apart pc instr.Fence = refl
operands_apart pc instr.InstructionFence = refl
operands_apart pc _ = refl

prefix_len-append : (p : ℕ → Bool) (front rest : List ℕ) → list_all p front ≡ true → prefix_len p rest ≡ 0
    → prefix_len p (front ++ rest) ≡ length front
prefix_len-append p [] rest all none = none
prefix_len-append p (c ∷ cs) rest all none =
    let parts = and_parts (p c) (list_all p cs) all in
    rw (parts.0) (ap (λ n. 1 + n) (prefix_len-append p cs rest parts.1 none) ∙ omega arith)

place : (pc : ℕ) (i : Instr) → prefix_len is_no_space (spelling_of i pc) ≡ length (mnemonic_name (mnemonic_of i))
place pc i = prefix_len-append is_no_space (mnemonic_name (mnemonic_of i)) (operands_of i pc)
    (spaceless (mnemonic_of i)) (operands_apart pc i)

name_in-spelling : (pc : ℕ) (i : Instr) → name_in (spelling_of i pc) ≡ mnemonic_name (mnemonic_of i)
name_in-spelling pc i = take_at (mnemonic_name (mnemonic_of i)) (operands_of i pc) _ (sym (place pc i))

behind_name-spelling : (pc : ℕ) (i : Instr) → behind_name (spelling_of i pc) ≡ operands_of i pc
behind_name-spelling pc i = drop_at (mnemonic_name (mnemonic_of i)) (operands_of i pc) _ (sym (place pc i))

-- ---- the two laws

-- the name of the row, in the text of its instruction
pub row_named : (pc : ℕ) (text : List ℕ) (i : Instr) → Says text i pc → name_in text ≡ mnemonic_name (mnemonic_of i)
row_named pc text i says = ap name_in says.spelled ∙ name_in-spelling pc i

pub read_is_said : (pc : ℕ) → pc < 2 ^ 32 → (text : List ℕ) (row : Mnemonic) (i : Instr)
    → name_in text ≡ mnemonic_name row
    → instr_at pc row (behind_name text) ≡ Ok i → Says text i pc
read_is_said pc here text row i named e =
    let read = instr_takes pc here row (behind_name text) i e in
    let whole : text ≡ name_in text ++ behind_name text = sym (take-append-drop (prefix_len is_no_space text) text) in
    let parts : name_in text ++ behind_name text ≡ mnemonic_name row ++ operands_of i pc =
    rw (named, read.spelled) refl in
    record {
      in_range = read.in_range;
      has_word = read.has_word;
      spelled = whole ∙ parts ∙ ap (λ (m : Mnemonic). mnemonic_name m ++ operands_of i pc) (sym read.row);
    }

pub said_is_read : (pc : ℕ) → pc < 2 ^ 32 → (text : List ℕ) (row : Mnemonic) → name_in text ≡ mnemonic_name row
    → (i : Instr) → Says text i pc → instr_at pc row (behind_name text) ≡ Ok i
said_is_read pc here text row named i says =
    let same : row ≡ mnemonic_of i = name_of-injective row (mnemonic_of i) (sym named ∙ row_named pc text i says) in
    let text_after : behind_name text ≡ operands_of i pc = ap behind_name says.spelled ∙ behind_name-spelling pc i in
    rw (same, text_after) (instr_again pc here i says.in_range says.has_word)

-- the same of a result
pub result_is_said : (pc : ℕ) → pc < 2 ^ 32 → (text : List ℕ) (row : Mnemonic) (r : Result Instr TextRefused)
    → name_in text ≡ mnemonic_name row
    → r ≡ instr_at pc row (behind_name text) → IfOk r (λ i. Says text i pc)
result_is_said pc here text row (Ok i) named e = read_is_said pc here text row i named (sym e)
result_is_said pc here text row (Err error) named e = tt
