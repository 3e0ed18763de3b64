-- What a step changes and depends on is what it uses: it writes no word beside, and reads none.
use Rattle.std.specs.Prelude.{◌≡◌, ℕ, zero, suc, ◌+◌, ◌*◌, ◌%◌, ◌^◌, ◌≤◌, ◌<◌, Bool, true, false, ◌==◌, ◌&&◌}
use Rattle.std.specs.Prelude.{nat_le, nat_lt, if◌then◌else◌, [], ◌∷◌, Option, Some, None, is_some, IfSome}
use Rattle.std.specs.List.{list_all}
use Rattle.std.proofs.Common.{◌∙◌, refl, sym, ap, ap₂, subst, inl, inr, arith}
use Rattle.std.proofs.{lemmas.Bool.cases_Bool, lemmas.Bool.Decides.nat_tests}
use Rattle.elf_image.specs.Image.{ProgramImage, word_now, has_code_word}
use Rattle.elf_image.proofs.Words.{word_now-at}
use Rattle.rv_instr.specs.{declared.op.Op.Op}
use Rattle.events.specs.{declared.effect.Effect.Effect, declared.effect.Written.Written}
use Rattle.smt_model.specs.{Exec.Computed, Nexts.is_last, Effects.effect_by, Effects.effect_of}
use Rattle.smt_model.specs.Bytes.{read, number_at, byte_after, read_value}
use Rattle.smt_model.specs.Reservations.{word_of_address, holds_word, reservation_after, reservation_after_write}
use Rattle.smt_model.specs.Kinds.{Kind, Computing, Loading, Storing, Reserving, Conditional, Atomic, kind_of}
use Rattle.smt_model.specs.Kinds.{access_size, is_loading, is_storing, touches_memory, writes_register}
use Rattle.outcome_laws.specs.Tables.{is_conditional}
use Rattle.outcome_laws.specs.Local.{Use, reading, writing, the_output, accesses, accesses_by}
use Rattle.outcome_laws.proofs.Facts.{first_of_both, second_of_both}
use Rattle.outcome_laws.proofs.Words.{LiesInWord, AccessLies, word_moved}

-- ---- What is written

-- This word is written to.
abbrev pub is_written : Option Written → ℕ → Bool
is_written None word = false
is_written (Some w) word = word_of_address w.addr == word

abbrev WriteLies : Option Written → Type 0
WriteLies write = IfSome write (λ w. LiesInWord w.addr w.n)

held_lies : (held : Bool) (w : Written) → LiesInWord w.addr w.n → WriteLies (if held then Some w else None)
held_lies true w lies = lies
held_lies false w lies = tt

kind_lies : (kind : Kind) (op : Op) (c : Computed) (now : ℕ) (held : Bool) → kind_of op ≡ kind
    → (touches_memory kind ≡ true → LiesInWord c.addr (access_size op))
    → WriteLies (effect_by kind op (writes_register op) c now held).write
kind_lies Computing op c now held is lies = tt
kind_lies Loading op c now held is lies = tt
kind_lies Storing op c now held is lies = lies refl
kind_lies Reserving op c now held is lies = tt
kind_lies Conditional op c now held is lies =
    held_lies held _ (subst (LiesInWord c.addr) (word_moved op (ap is_loading is) (ap is_storing is)) (lies refl))
kind_lies Atomic op c now held is lies =
    subst (LiesInWord c.addr) (word_moved op (ap is_loading is) (ap is_storing is)) (lies refl)

write_lies : (op : Op) (c : Computed) (now : ℕ) (held : Bool) → AccessLies op c
    → WriteLies (effect_of op c now held).write
write_lies op c now held lies =
    elim (cases_Bool (is_last c.next)) [
      | inl last ↦ rw last tt
      | inr going ↦ rw going (kind_lies (kind_of op) op c now held refl (lies going))
    ]

byte_spared : (write : Option Written) (a before : ℕ) → WriteLies write → is_written write (word_of_address a) ≡ false
    → byte_after write a before ≡ before
byte_spared None a before lies spared = refl
byte_spared (Some w) a before lies spared =
    elim (cases_Bool (nat_le w.addr a && nat_lt a (w.addr + w.n))) [
      | inl inside ↦
          let from : w.addr ≤ a = grind (arith, nat_tests, first_of_both (nat_le w.addr a) _ inside) in
          let below : a < w.addr + w.n = grind (arith, nat_tests, second_of_both (nat_le w.addr a) _ inside) in
          let same : word_of_address a ≡ word_of_address w.addr = lies a from below in
          absurd (grind (arith, nat_tests, same, spared))
      | inr outside ↦ rw outside refl
    ]

-- A byte whose word isn't written to stays.
pub byte_stays : (op : Op) (c : Computed) (now : ℕ) (held : Bool) (a before : ℕ) → AccessLies op c
    → is_written (effect_of op c now held).write (word_of_address a) ≡ false
    → byte_after (effect_of op c now held).write a before ≡ before
byte_stays op c now held a before lies spared =
    byte_spared (effect_of op c now held).write a before (write_lies op c now held lies) spared

-- ---- What is written is used

one_of : (p : Use → Bool) (u : Use) → list_all p (u ∷ []) ≡ true → p u ≡ true
one_of p u all = first_of_both (p u) true all

written_word : (p : Use → Bool) (addr word : ℕ) → list_all p (writing (word_of_address addr) ∷ []) ≡ true
    → (word_of_address addr == word) ≡ true → p (writing word) ≡ true
written_word p addr word all is =
    let same : word_of_address addr ≡ word = grind (arith, nat_tests) in
    subst (λ w. p (writing w) ≡ true) same (one_of p (writing (word_of_address addr)) all)

held_written : (held : Bool) (w : Written) (word : ℕ) → is_written (if held then Some w else None) word ≡ true
    → is_written (Some w) word ≡ true
held_written true w word is = is
held_written false w word is = absurd (grind arith)

kind_used : (kind : Kind) (op : Op) (writes : Bool) (c : Computed) (now : ℕ) (held : Bool) (p : Use → Bool) (word : ℕ)
    → list_all p (accesses_by kind c) ≡ true → is_written (effect_by kind op writes c now held).write word ≡ true
    → p (writing word) ≡ true
kind_used Computing op writes c now held p word all is = absurd (grind arith)
kind_used Loading op writes c now held p word all is = absurd (grind arith)
kind_used Storing op writes c now held p word all is = written_word p c.addr word all is
kind_used Reserving op writes c now held p word all is = absurd (grind arith)
kind_used Conditional op writes c now held p word all is =
    written_word p c.addr word all (held_written held _ word is)
kind_used Atomic op writes c now held p word all is = written_word p c.addr word all is

-- What holds of all uses holds of the word that is written.
pub written_is_used : (op : Op) (c : Computed) (now : ℕ) (held : Bool) (p : Use → Bool) (word : ℕ)
    → list_all p (accesses op c) ≡ true → is_written (effect_of op c now held).write word ≡ true
    → p (writing word) ≡ true
written_is_used op c now held p word all is =
    elim (cases_Bool (is_last c.next)) [
      | inl last ↦ let none : false ≡ true = rw last at is in absurd (grind arith)
      | inr going ↦
          kind_used (kind_of op) op (writes_register op) c now held p word (rw going at all) (rw going at is)
    ]

put_used : (p : Use → Bool) (out : Option ℕ) → list_all p (if is_some out then writing the_output ∷ [] else []) ≡ true
    → is_some out ≡ true → p (writing the_output) ≡ true
put_used p None all is = absurd (grind arith)
put_used p (Some byte) all is = one_of p (writing the_output) all

kind_put : (kind : Kind) (op : Op) (writes : Bool) (c : Computed) (now : ℕ) (held : Bool) (p : Use → Bool)
    → list_all p (accesses_by kind c) ≡ true → is_some (effect_by kind op writes c now held).out ≡ true
    → p (writing the_output) ≡ true
kind_put Computing op writes c now held p all is = put_used p c.out all is
kind_put Loading op writes c now held p all is = absurd (grind arith)
kind_put Storing op writes c now held p all is = absurd (grind arith)
kind_put Reserving op writes c now held p all is = absurd (grind arith)
kind_put Conditional op writes c now held p all is = absurd (grind arith)
kind_put Atomic op writes c now held p all is = absurd (grind arith)

-- And of the output, where a byte is put out.
pub output_is_used : (op : Op) (c : Computed) (now : ℕ) (held : Bool) (p : Use → Bool)
    → list_all p (accesses op c) ≡ true → is_some (effect_of op c now held).out ≡ true
    → p (writing the_output) ≡ true
output_is_used op c now held p all is =
    elim (cases_Bool (is_last c.next)) [
      | inl last ↦ let none : false ≡ true = rw last at is in absurd (grind arith)
      | inr going ↦ kind_put (kind_of op) op (writes_register op) c now held p (rw going at all) (rw going at is)
    ]

kind_accessed : (kind : Kind) (c : Computed) (p : Use → Bool) → touches_memory kind ≡ true
    → list_all p (accesses_by kind c) ≡ true
    → (writes : Bool) × (p (record { what = word_of_address c.addr; writes = writes }) ≡ true)
kind_accessed Computing c p touches all = absurd (grind arith)
kind_accessed Loading c p touches all = (false, one_of p (reading (word_of_address c.addr)) all)
kind_accessed Storing c p touches all = (true, one_of p (writing (word_of_address c.addr)) all)
kind_accessed Reserving c p touches all = (false, one_of p (reading (word_of_address c.addr)) all)
kind_accessed Conditional c p touches all = (true, one_of p (writing (word_of_address c.addr)) all)
kind_accessed Atomic c p touches all = (true, one_of p (writing (word_of_address c.addr)) all)

-- And of the word that is accessed, to read or to write.
pub accessed_is_used : (op : Op) (c : Computed) (p : Use → Bool) → is_last c.next ≡ false
    → touches_memory (kind_of op) ≡ true → list_all p (accesses op c) ≡ true
    → (writes : Bool) × (p (record { what = word_of_address c.addr; writes = writes }) ≡ true)
accessed_is_used op c p going touches all =
    kind_accessed (kind_of op) c p touches (rw going at all)

-- ---- What is read

-- Where a word holds the same, and its reservation is the same for whoever asks for that.
pub record Agree (bytes1 bytes2 : ℕ → ℕ) (held1 held2 : Option ℕ) (addr : ℕ) (asks : Bool) : Type 0 where
  pub bytes : (a : ℕ) → word_of_address a ≡ word_of_address addr → bytes1 a ≡ bytes2 a
  pub held : asks ≡ true → holds_word held1 addr ≡ holds_word held2 addr

same_numbers : (bytes1 bytes2 : ℕ → ℕ) (n addr : ℕ) → ((a : ℕ) → addr ≤ a → a < addr + n → bytes1 a ≡ bytes2 a)
    → number_at bytes1 addr n ≡ number_at bytes2 addr n
same_numbers bytes1 bytes2 zero addr same = refl
same_numbers bytes1 bytes2 (suc n) addr same =
    ap₂ (λ x y. x + 2 ^ 8 * y) (same addr (omega arith) (omega arith))
    (same_numbers bytes1 bytes2 n (addr + 1) (λ a from below. same a (omega arith) (omega arith)))

same_read : (op : Op) (bytes1 bytes2 : ℕ → ℕ) (addr : ℕ) → LiesInWord addr (access_size op)
    → ((a : ℕ) → word_of_address a ≡ word_of_address addr → bytes1 a ≡ bytes2 a)
    → read op bytes1 addr ≡ read op bytes2 addr
same_read op bytes1 bytes2 addr lies same =
    ap (read_value op)
    (same_numbers bytes1 bytes2 (access_size op) addr (λ a from below. same a (lies a from below)))

kind_same : (kind : Kind) (op : Op) (writes : Bool) (c : Computed) (bytes1 bytes2 : ℕ → ℕ) (held1 held2 : Option ℕ)
    → (touches_memory kind ≡ true → LiesInWord c.addr (access_size op))
    → (touches_memory kind ≡ true → Agree bytes1 bytes2 held1 held2 c.addr (is_conditional kind))
    → effect_by kind op writes c (read op bytes1 c.addr) (holds_word held1 c.addr)
    ≡ effect_by kind op writes c (read op bytes2 c.addr) (holds_word held2 c.addr)
kind_same Computing op writes c bytes1 bytes2 held1 held2 lies agree = refl
kind_same Loading op writes c bytes1 bytes2 held1 held2 lies agree =
    ap (λ now. effect_by Loading op writes c now false)
    (same_read op bytes1 bytes2 c.addr (lies refl) (agree refl).bytes)
kind_same Storing op writes c bytes1 bytes2 held1 held2 lies agree = refl
kind_same Reserving op writes c bytes1 bytes2 held1 held2 lies agree =
    ap (λ now. effect_by Reserving op writes c now false)
    (same_read op bytes1 bytes2 c.addr (lies refl) (agree refl).bytes)
kind_same Conditional op writes c bytes1 bytes2 held1 held2 lies agree =
    ap (effect_by Conditional op writes c 0) ((agree refl).held refl)
kind_same Atomic op writes c bytes1 bytes2 held1 held2 lies agree =
    ap (λ now. effect_by Atomic op writes c now false)
    (same_read op bytes1 bytes2 c.addr (lies refl) (agree refl).bytes)

abbrev pub effect_on : Op → Computed → (ℕ → ℕ) → Option ℕ → Effect
effect_on op c bytes held = effect_of op c (read op bytes c.addr) (holds_word held c.addr)

-- The effect is the same wherever the word that is accessed is.
pub same_effect : (op : Op) (c : Computed) (bytes1 bytes2 : ℕ → ℕ) (held1 held2 : Option ℕ) → AccessLies op c
    → (is_last c.next ≡ false → touches_memory (kind_of op) ≡ true
    → Agree bytes1 bytes2 held1 held2 c.addr (is_conditional (kind_of op)))
    → effect_on op c bytes1 held1 ≡ effect_on op c bytes2 held2
same_effect op c bytes1 bytes2 held1 held2 lies agree =
    elim (cases_Bool (is_last c.next)) [
      | inl last ↦ rw last refl
      | inr going ↦
          rw going
          (kind_same (kind_of op) op (writes_register op) c bytes1 bytes2 held1 held2 (lies going) (agree going))
    ]

-- ---- A fetch

-- Where memories agree on the word at a pc, they have the same instruction there.
pub same_code : (image : ProgramImage) (bytes1 bytes2 : ℕ → ℕ) (pc : ℕ)
    → ((a : ℕ) → word_of_address a ≡ pc → bytes1 a ≡ bytes2 a)
    → word_now image bytes1 pc ≡ word_now image bytes2 pc
unfolding word_now
same_code image bytes1 bytes2 pc same =
    elim (cases_Bool (has_code_word image pc)) [
      | inl there ↦
          let even : pc % 4 ≡ 0 = grind (arith, nat_tests) in
          word_now-at image bytes1 bytes2 pc (same pc (omega arith)) (same (pc + 1) (omega arith))
          (same (pc + 2) (omega arith)) (same (pc + 3) (omega arith))
      | inr none ↦ rw none refl
    ]

pub same_fetch : (image : ProgramImage) (bytes1 bytes2 : ℕ → ℕ) (pc : ℕ)
    → ((a : ℕ) → word_of_address a ≡ word_of_address pc → bytes1 a ≡ bytes2 a)
    → word_now image bytes1 pc ≡ word_now image bytes2 pc
unfolding word_now
same_fetch image bytes1 bytes2 pc same =
    elim (cases_Bool (has_code_word image pc)) [
      | inl there ↦
          let even : word_of_address pc ≡ pc = grind (arith, nat_tests) in
          same_code image bytes1 bytes2 pc (λ a is. same a (is ∙ sym even))
      | inr none ↦ rw none refl
    ]

-- ---- Reservations

pub flipped : (h g : ℕ) → (g == h) ≡ false → (h == g) ≡ false
flipped h g apart = grind (arith, nat_tests)

-- A reservation stays where its word isn't written to.
pub reservation_stays : (write : Option Written) (addr : ℕ) → is_written write (word_of_address addr) ≡ false
    → reservation_after_write write (Some addr) ≡ Some addr
reservation_stays None addr spared = refl
reservation_stays (Some w) addr spared = rw (flipped (word_of_address addr) (word_of_address w.addr) spared) refl

holds_only : (a addr : ℕ) → (word_of_address a == word_of_address addr) ≡ false → (a == addr) ≡ false
holds_only a addr apart =
    elim (cases_Bool (a == addr)) [
      | inl same ↦
          let is : a ≡ addr = grind (arith, nat_tests) in
          let words : word_of_address a ≡ word_of_address addr = ap word_of_address is in
          absurd (grind (arith, nat_tests, words, apart))
      | inr other ↦ other
    ]

holds_still_by : (write : Option Written) (held : Option ℕ) (addr : ℕ) → is_written write (word_of_address addr) ≡ false
    → holds_word (reservation_after_write write held) addr ≡ holds_word held addr
holds_still_by None held addr spared = refl
holds_still_by (Some w) None addr spared = refl
holds_still_by (Some w) (Some a) addr spared =
    elim (cases_Bool (word_of_address a == word_of_address w.addr)) [
      | inl hit ↦
          let same : word_of_address a ≡ word_of_address w.addr = grind (arith, nat_tests) in
          let other : (word_of_address a == word_of_address addr) ≡ false =
          subst (λ n. (n == word_of_address addr) ≡ false) (sym same) spared in
          rw hit (sym (holds_only a addr other))
      | inr miss ↦ rw miss refl
    ]

-- So it is with another hart's step.
pub holds_still : (op : Op) (at : ℕ) (x : Effect) (held : Option ℕ) (addr : ℕ)
    → is_written x.write (word_of_address addr) ≡ false
    → holds_word (reservation_after op at x false held) addr ≡ holds_word held addr
holds_still op at x held addr spared =
    elim (cases_Bool (is_last x.next)) [
      | inl last ↦ rw last refl
      | inr going ↦ rw going (holds_still_by x.write held addr spared)
    ]

holds_never_by : (write : Option Written) (held : Option ℕ) (addr : ℕ) → holds_word held addr ≡ false
    → holds_word (reservation_after_write write held) addr ≡ false
holds_never_by None held addr lacks = lacks
holds_never_by (Some w) None addr lacks = refl
holds_never_by (Some w) (Some a) addr lacks =
    elim (cases_Bool (word_of_address a == word_of_address w.addr)) [
      | inl hit ↦ rw hit refl
      | inr miss ↦ rw miss lacks
    ]

-- No step of another hart gives a reservation.
pub holds_never : (op : Op) (at : ℕ) (x : Effect) (held : Option ℕ) (addr : ℕ) → holds_word held addr ≡ false
    → holds_word (reservation_after op at x false held) addr ≡ false
holds_never op at x held addr lacks =
    elim (cases_Bool (is_last x.next)) [
      | inl last ↦ rw last lacks
      | inr going ↦ rw going (holds_never_by x.write held addr lacks)
    ]
