-- What a hart finds at its pc, and what that computes, is what hart h of the definitions' machine finds, where it is
-- that hart.
use Rattle.std.proofs.Common.{◌≡◌, ℕ, ◌<◌, ◌+◌, true, false, Option, Some, None, IfSome, refl, sym, ap, ◌∙◌, arith}
use Rattle.std.proofs.Common.{inl, inr}
use Rattle.std.specs.Prelude.{slice_index}
use Rattle.std.proofs.lemmas.Bool.{cases_Bool, Decides.nat_tests}
use Rattle.elf_image.specs.Image.{ProgramImage, IsWellFormed, has_code_word, word_of, word_now, byte_in}
use Rattle.elf_image.specs.Image.{code_writable}
use Rattle.elf_image.proofs.Words.{word_now-same}
use Rattle.rv_instr.specs.{Decode.op_of_word, Kinds.or_zero, Table.OpInRange, declared.op.Op.Op}
use Rattle.rv_instr.specs.Kinds.{first_source, second_source}
use Rattle.rv_instr.specs.declared.op.Op.TheVariants.{NoWord}
use Rattle.rv_instr.specs.Registers.{op_rs1, op_rs2}
use Rattle.rv_instr.proofs.DecodedLemmas.{op_rs1_below, op_rs2_below}
use Rattle.shared_memory.specs.Contents.{Contents}
use Rattle.smt_model.specs.{Setup.Setup, Exec.exec, Faults.checked, Faults.computed_on, Faults.read_fault}
use Rattle.smt_model.specs.Bytes.{number_at}
use Rattle.smt_model.specs.Plain.{Plain, read_register, op_at_pc, computes}
use Rattle.outcome_laws.specs.{Paths.HasItsCode, Tables.op_at}
use Rattle.outcome_laws.proofs.Holding.{op_fixed}
use Rattle.sc_machine.specs.{Harts.HartAgrees, declared.hart.Hart.Hart}
use Rattle.sc_machine.specs.Here.{computed_here}
use Rattle.changed_memory.specs.Shared.{Shared, byte_at}
use Rattle.condensed_machine.specs.Executing.{SharedAgrees}

-- ---- What is computed

pub below : (r : Option ℕ) → IfSome r (λ n. n < 32) → or_zero r < 32
below None none = omega arith
below (Some n) within = within

first_below : (op : Op) → OpInRange op → first_source op < 32
unfolding first_source
first_below op in_range = below (op_rs1 op) (op_rs1_below op in_range)

second_below : (op : Op) → OpInRange op → second_source op < 32
unfolding second_source
second_below op in_range = below (op_rs2 op) (op_rs2_below op in_range)

module _ (setup : Setup) (s : Plain) (m : Contents) (h : ℕ) (x : Hart) (image : m.image ≡ setup.image)
    (is : HartAgrees s h x) where
  pub computed_same : (op : Op) → OpInRange op → op ≡ op_at_pc setup s h → computed_here m x op ≡ computes setup s h
  computed_same op in_range of_op =
      let a = slice_index x.registers (first_source op) in
      let b = slice_index x.registers (second_source op) in
      let a' = read_register s h (first_source op) in
      ap (λ i. checked i op (exec op x.pc a b)) image
      ∙ ap (λ pc. checked setup.image op (exec op pc a b)) is.pc
      ∙ ap (λ n. checked setup.image op (exec op (s.pcs h) n b))
      (is.registers (first_source op) (first_below op in_range))
      ∙ ap (λ n. checked setup.image op (exec op (s.pcs h) a' n))
      (is.registers (second_source op) (second_below op in_range))
      ∙ ap (λ o. computed_on setup o (s.pcs h) (read_register s h (first_source o))
      (read_register s h (second_source o))) of_op

  -- Where the code may not be written, the image has what is found.
  pub fixed_same : (op : Op) → HasItsCode setup s → code_writable m.image ≡ false
      → op ≡ op_of_word (word_now m.image (byte_in m.image) x.pc) → op ≡ op_at_pc setup s h
  fixed_same op holds fixed found =
      found
      ∙ ap (λ i. op_at i x.pc) image
      ∙ ap (op_at setup.image) is.pc
      ∙ sym (op_fixed setup s holds (ap code_writable (sym image) ∙ fixed) h)

  -- What the harts share has what is found.
  pub shared_same : (shared : Shared) (op : Op) → SharedAgrees m.image s shared
      → op ≡ op_of_word (word_now m.image (byte_at m.image shared) x.pc) → op ≡ op_at_pc setup s h
  shared_same shared op agrees found =
      found
      ∙ ap op_of_word (word_now-same m.image (byte_at m.image shared) s.bytes agrees.bytes x.pc)
      ∙ ap (λ i. op_of_word (word_now i s.bytes x.pc)) image
      ∙ ap (λ pc. op_of_word (word_now setup.image s.bytes pc)) is.pc

-- ---- What the harts share at a pc

-- A word is the number of its four bytes.
pub word_is_number : (bytes : ℕ → ℕ) (addr : ℕ) → word_of bytes addr ≡ number_at bytes addr 4
unfolding word_of
word_is_number bytes addr =
    let two : addr + 1 + 1 ≡ addr + 2 = omega arith in
    let three : addr + 1 + 1 + 1 ≡ addr + 3 = omega arith in
    let third = ap bytes two in
    let fourth = ap bytes three in
    omega (arith, third, fourth)

-- Where there is a word it can be read, whatever memory holds.
pub there_where_some : (image : ProgramImage) (bytes : ℕ → ℕ) (pc word : ℕ) → word_now image bytes pc ≡ Some word
    → has_code_word image pc ≡ true
unfolding word_now
there_where_some image bytes pc word some =
    elim (cases_Bool (has_code_word image pc)) [
      | inl there ↦ there
      | inr none ↦ absurd (grind (arith, none, some))
    ]

pub readable : (image : ProgramImage) (pc : ℕ) → IsWellFormed image → has_code_word image pc ≡ true
    → read_fault image pc 4 ≡ None
readable image pc well_formed there =
    let within = well_formed.code_within in grind (arith, nat_tests)

pub word_now_there : (image : ProgramImage) (bytes : ℕ → ℕ) (pc : ℕ) → has_code_word image pc ≡ true
    → word_now image bytes pc ≡ Some (number_at bytes pc 4)
unfolding word_now
word_now_there image bytes pc there = let word = word_is_number bytes pc in rw (there, word) refl

-- Where there is none, there is none whatever memory holds.
pub none_now : (image : ProgramImage) (f g : ℕ → ℕ) (pc : ℕ) → word_now image f pc ≡ None → word_now image g pc ≡ None
unfolding word_now
none_now image f g pc none =
    elim (cases_Bool (has_code_word image pc)) [
      | inl there ↦ absurd (grind (arith, none, there))
      | inr absent ↦ rw absent refl
    ]

pub no_op : (word : Option ℕ) → word ≡ None → op_of_word word ≡ NoWord
unfolding op_of_word
no_op word none = rw none refl
