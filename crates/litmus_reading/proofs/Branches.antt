-- An instruction that branches, by its name and its operands.
use Rattle.std.proofs.Common.{◌≡◌, ℕ, List, [], ◌∷◌, ◌++◌, true, Result, sym, ap, ◌∙◌, subst, true≢false}
use Rattle.rv_instr.specs.declared.instr.{BranchOp.BranchOp, Instr.Instr}
use Rattle.litmus_tests.specs.declared.fence.{Fence.Fence as AnyFence}
use Rattle.litmus_tests.specs.declared.fence.Fence.TheVariants.{Sets, TotalStoreOrder}
use Rattle.litmus_words.specs.Answered.{Gives}
use Rattle.litmus_words.specs.declared.refused.Stop.{Stop}
use Rattle.litmus_words.specs.declared.word.Word.{Word}
use Rattle.litmus_words.specs.declared.word.Token.{Token}
use Rattle.litmus_words.specs.declared.word.Token.TheVariants.{Mnemonic as name_token}
use Rattle.litmus_words.specs.declared.mnemonic.Mnemonic.{Mnemonic}
use Rattle.litmus_words.specs.Tokens.{tokens}
use Rattle.litmus_reading.specs.declared.instruction.Written.{Written}
use Rattle.litmus_reading.specs.declared.instruction.Written.TheVariants.{Straight, Constant, Branch, Fence}
use Rattle.litmus_reading.specs.Fences.{HasItsSets}
use Rattle.litmus_reading.specs.Instructions.{HasItsLabel, IsLastLabel, SpellsInstruction, SpellsWritten, is_label}

-- a name of an instruction is no label
label_by : (name : Word) (operands front : List Word) (mnemonic : Mnemonic) (label : Word)
    → name.token ≡ name_token mnemonic → name ∷ operands ≡ front ++ label ∷ [] → is_label label.token ≡ true
    → (rest : List Word) × (operands ≡ rest ++ label ∷ [])
label_by name operands [] mnemonic label is ends named =
    let same : name ≡ label = cc in
    absurd (true≢false (sym named ∙ ap (λ (word : Word). is_label word.token) (sym same) ∙ ap is_label is))
label_by name operands (word ∷ front) mnemonic label is ends named = (front, cc)

pub label_behind : (name : Word) (operands : List Word) (mnemonic : Mnemonic) (label : Word)
    → name.token ≡ name_token mnemonic → IsLastLabel (name ∷ operands) label → IsLastLabel operands label
label_behind name operands mnemonic label is last =
    let it = label_by name operands last.front mnemonic label is last.last last.named in
    record { front = it.0; last = it.1; named = last.named }

label_before : (name : Word) (operands : List Word) (written : Written) → HasItsLabel operands written
    → HasItsLabel (name ∷ operands) written
label_before name operands (Branch op left right label) it =
    record { front = name ∷ it.front; last = ap (λ (t : List Word). name ∷ t) it.last; named = it.named }
label_before name operands (Straight instruction) it = tt
label_before name operands (Constant register value) it = tt
label_before name operands (Fence fence) it = tt

no_sets : (text : List ℕ) (name : Word) (operands : List Word) (mnemonic : Mnemonic) (written : Written)
    → ((fence : AnyFence) → SpellsWritten mnemonic (tokens operands) (Fence fence) → ⊥)
    → SpellsWritten mnemonic (tokens operands) written → HasItsSets text (name ∷ operands) written
no_sets text name operands mnemonic (Branch op left right label) off it = tt
no_sets text name operands mnemonic (Straight instruction) off it = tt
no_sets text name operands mnemonic (Constant register value) off it = tt
no_sets text name operands mnemonic (Fence TotalStoreOrder) off it = tt
no_sets text name operands mnemonic (Fence (Sets before after)) off it = absurd (off (Sets before after) it)

pub branch_spelled : (text : List ℕ) (words operands : List Word) (name : Word) (mnemonic : Mnemonic)
    (written : Written) → words ≡ name ∷ operands → name.token ≡ name_token mnemonic
    → ((fence : AnyFence) → SpellsWritten mnemonic (tokens operands) (Fence fence) → ⊥)
    → SpellsWritten mnemonic (tokens operands) written → HasItsLabel operands written
    → SpellsInstruction text words written
branch_spelled text words operands name mnemonic written is named off spells label =
    subst (λ (t : List Word). SpellsInstruction text t written) (sym is) (record {
      mnemonic = mnemonic;
      operands = tokens operands;
      spelled = ap (λ (t : Token). t ∷ tokens operands) named;
      spells = spells;
      label = label_before name operands written label;
      sets = no_sets text name operands mnemonic written off spells;
    })

-- what its words say
pub record Said (operands : List Word) (mnemonic : Mnemonic) (written : Written) : Type 0 where
  pub spells : SpellsWritten mnemonic (tokens operands) written
  pub label : HasItsLabel operands written

label_of_behind : (name : Word) (operands : List Word) (mnemonic : Mnemonic) (written : Written)
    → name.token ≡ name_token mnemonic → HasItsLabel (name ∷ operands) written → HasItsLabel operands written
label_of_behind name operands mnemonic (Branch op left right label) is it =
    label_behind name operands mnemonic label is it
label_of_behind name operands mnemonic (Straight instruction) is it = tt
label_of_behind name operands mnemonic (Constant register value) is it = tt
label_of_behind name operands mnemonic (Fence fence) is it = tt

same_name : (name : Word) (operands : List Word) (mnemonic other : Mnemonic) (text : List Token)
    → name.token ≡ name_token mnemonic → tokens (name ∷ operands) ≡ name_token other ∷ text
    → (mnemonic ≡ other) × (tokens operands ≡ text)
same_name name operands mnemonic other text is spelled =
    let same : name_token mnemonic ∷ tokens operands ≡ name_token other ∷ text =
    ap (λ (t : Token). t ∷ tokens operands) (sym is) ∙ spelled in (cc, cc)

said_by : (text : List ℕ) (name : Word) (operands : List Word) (mnemonic : Mnemonic) (written : Written)
    → name.token ≡ name_token mnemonic → SpellsInstruction text (name ∷ operands) written
    → Said operands mnemonic written
said_by text name operands mnemonic written is it =
    let same = same_name name operands mnemonic it.mnemonic it.operands is it.spelled in
    record {
      spells = subst (λ (t : List Token). SpellsWritten mnemonic t written) (sym same.1)
          (subst (λ (m : Mnemonic). SpellsWritten m it.operands written) (sym same.0) it.spells);
      label = label_of_behind name operands mnemonic written is it.label;
    }

pub said : (text : List ℕ) (words operands : List Word) (name : Word) (mnemonic : Mnemonic) (written : Written)
    → words ≡ name ∷ operands → name.token ≡ name_token mnemonic → SpellsInstruction text words written
    → Said operands mnemonic written
said text words operands name mnemonic written is named it =
    said_by text name operands mnemonic written named
    (subst (λ (t : List Word). SpellsInstruction text t written) is it)

-- so there is one branch that they say
pub branch_only : (operands : List Word) (mnemonic : Mnemonic) (result : Result Written Stop)
    → ((instruction : Instr) → SpellsWritten mnemonic (tokens operands) (Straight instruction) → ⊥)
    → ((register value : ℕ) → SpellsWritten mnemonic (tokens operands) (Constant register value) → ⊥)
    → ((fence : AnyFence) → SpellsWritten mnemonic (tokens operands) (Fence fence) → ⊥)
    → ((op : BranchOp) (left right : ℕ) (label : Word)
    → SpellsWritten mnemonic (tokens operands) (Branch op left right label) → IsLastLabel operands label
    → Gives result (λ found. found ≡ Branch op left right label))
    → (written : Written) → Said operands mnemonic written → Gives result (λ found. found ≡ written)
branch_only operands mnemonic result straight constant fence branch (Straight instruction) it =
    absurd (straight instruction it.spells)
branch_only operands mnemonic result straight constant fence branch (Constant register value) it =
    absurd (constant register value it.spells)
branch_only operands mnemonic result straight constant fence branch (Fence one) it = absurd (fence one it.spells)
branch_only operands mnemonic result straight constant fence branch (Branch op left right label) it =
    branch op left right label it.spells it.label
