-- A hart is kept as it stands on its way, at the start and behind each step.
use Rattle.std.specs.Prelude.{◌≡◌, ℕ, zero, suc, ◌+◌, ◌-◌, ◌%◌, ◌<◌, ◌==◌, nat_le, nat_lt, ◌&&◌, Bool, true, false, if◌then◌else◌, List, [], ◌∷◌, ◌++◌}
use Rattle.std.specs.Prelude.{Option, Some, None, IfSome, slice_index, length, is_some}
use Rattle.std.specs.List.{AllZip}
use Rattle.std.specs.Prelude.{Vec}
use Rattle.std.specs.declared.alloc.Global.{Global}
use Rattle.std.proofs.Common.{refl, sym, ap, subst, ◌∙◌, inl, inr, arith}
use Rattle.std.proofs.lemmas.Bool.{cases_Bool}
use Rattle.std.proofs.lemmas.Bool.Decides.{nat_tests}
use Rattle.elf_image.specs.Image.{ProgramImage, byte_in, in_ram, in_code, code_start, code_size, word_now}
use Rattle.elf_image.proofs.Words.{word_now-same, word_now-kept}
use Rattle.events.specs.declared.effect.Written.{Written}
use Rattle.rv_instr.specs.{declared.op.Op.TheVariants.Known, declared.op.Op.TheVariants.Illegal}
use Rattle.rv_instr.specs.{declared.op.Op.TheVariants.NoWord, declared.instr.Instr.Instr}
use Rattle.rv_instr.specs.{declared.instr.LoadOp.LoadOp, declared.instr.StoreOp.StoreOp}
use Rattle.rv_instr.specs.declared.instr.Instr.TheVariants.{Load, Store}
use Rattle.rv_instr.specs.declared.instr.LoadOp.TheVariants.{Lb, Lh, Lw, Lbu, Lhu}
use Rattle.rv_instr.specs.declared.instr.StoreOp.TheVariants.{Sb, Sh, Sw}
use Rattle.rv_instr.specs.{Registers.op_rs1, Registers.op_rs2, Kinds.or_zero}
use Rattle.rv_instr.specs.Decode.{op_of_word}
use Rattle.rv_instr.specs.Table.{OpInRange}
use Rattle.rv_instr.proofs.DecodedLemmas.{op_rs1_below, op_rs2_below}
use Rattle.rv_execute.specs.Access.{IsSize, reads_memory}
use Rattle.smt_model.specs.Words.{Op, Effect}
use Rattle.smt_model.specs.Kinds.{Kind, Computing, Loading, Storing, Reserving, Conditional, Atomic}
use Rattle.smt_model.specs.Kinds.{kind_of, access_size, load_size, store_size, first_source, second_source}
use Rattle.smt_model.specs.Kinds.{writes_register}
use Rattle.smt_model.specs.{Setup.Setup, Exec.Computed, Exec.exec, Nexts.is_last}
use Rattle.smt_model.specs.{Effects.effect_by, Effects.effect_of, Effects.last_effect}
use Rattle.smt_model.specs.{Faults.fault, Faults.read_fault, Faults.write_fault, Faults.checked, Faults.computed_on}
use Rattle.smt_model.specs.Bytes.{number_at, read, read_value, byte_after, written_byte}
use Rattle.smt_model.specs.Reservations.{holds_word, word_of_address, reservation_after}
use Rattle.smt_model.specs.Plain.{start, after, op_at_pc, computes, effect_at, read_register}
use Rattle.shared_memory.specs.Contents.{CanWrite, byte_of}
use Rattle.shared_memory.proofs.{Checking.can_read, Writing.can_write}
use Rattle.sc_machine.specs.{Access.HasNoFault, Harts.IsFirst, Harts.HartAgrees}
use Rattle.sc_machine.specs.{Here.computed_here, declared.hart.Hart.Hart as State}
use Rattle.sc_machine.proofs.Harts.{own_hart}
use Rattle.program_ways.specs.declared.{program.Program.Program, hart.Hart.Hart, hart.Sharing.Sharing}
use Rattle.program_ways.specs.Steps.{Way, first_way, location_of, accesses_memory, accesses_at, address_at}
use Rattle.program_ways.specs.Steps.{state_behind, way_alone, way_sharing, effect_found, made_by, IsAlone, IsSharing}
use Rattle.program_ways.specs.Ways.{IsOnWay, MayHave, at_start, behind_own, behind_shared, IsPlaceOf, IsTold}
use Rattle.program_ways.specs.Keeping.{setup_here, IsProgram, own_byte, IsOwn, Keeps, HasWay, op_of, may_write}
use Rattle.program_ways.specs.Keeping.{IsNoCode, GoesAlone, HasAdvanced, IsAt, MayHaveAt}
use Rattle.litmus_runs.specs.declared.{access.Access.Access, finding.Found.Found}
use Rattle.litmus_runs.specs.Steps.{IsMade, datum_of, number_read, reserving_behind, reserving_of}
use Rattle.program_ways.specs.declared.own.OwnWord.{OwnWord}

-- ---- At the start

first_agrees : (setup : Setup) (h : ℕ) (x : State) → IsFirst h setup.harts setup.image.entry x
    → HartAgrees (start setup) h x
first_agrees setup h x is = record {
  registers = λ r below. is.registers r ∙ grind (arith, nat_tests);
  pc = is.pc;
  status = is.status;
}

pub at_first : (p : Program) (shared : List ℕ) (hart : Hart) → IsProgram p → hart.index < p.harts
    → IsFirst hart.index p.harts p.entry hart.state → hart.accesses.items ≡ [] → hart.own.items ≡ []
    → hart.reserved ≡ None → hart.reserving ≡ 0 → HasWay p shared hart
at_first p shared hart program there first accesses own reserved reserving = record {
  way = first_way (setup_here p);
  on = at_start hart.index there;
  keeps = record {
    state = first_agrees (setup_here p) hart.index hart.state
        (subst (λ entry. IsFirst hart.index p.harts entry hart.state) program.entry first);
    accesses = rw accesses tt;
    own = λ addr is. rw own refl;
    reserved = reserved;
    reserving = reserving;
    code = λ addr is. refl;
  };
}

-- ---- What stands at the pc

below : (r : Option ℕ) → IfSome r (λ n. n < 32) → or_zero r < 32
below None none = omega arith
below (Some n) within = within

first_below : (op : Op) → OpInRange op → first_source op < 32
unfolding first_source
first_below op in_range = below (op_rs1 op) (op_rs1_below op in_range)

second_below : (op : Op) → OpInRange op → second_source op < 32
unfolding second_source
second_below op in_range = below (op_rs2 op) (op_rs2_below op in_range)

module _ (p : Program) (shared : List ℕ) (w : Way) (hart : Hart) (program : IsProgram p) (keeps : Keeps p shared w hart)
  where
    pub same_op : op_of p hart ≡ op_at_pc (setup_here p) w.state hart.index
    same_op =
        ap op_of_word
        (word_now-same p.memory.image (byte_of p.memory) (byte_in p.memory.image) program.memory.bytes hart.state.pc
        ∙ sym (word_now-kept p.memory.image w.state.bytes (byte_in p.memory.image) keeps.code hart.state.pc)
        ∙ ap (word_now p.memory.image w.state.bytes) keeps.state.pc)

    pub same_computed : (op : Op) → OpInRange op → op ≡ op_of p hart
        → computed_here p.memory hart.state op ≡ computes (setup_here p) w.state hart.index
    same_computed op in_range is =
        let image = p.memory.image in
        let s = w.state in
        let h = hart.index in
        let a = slice_index hart.state.registers (first_source op) in
        let b = slice_index hart.state.registers (second_source op) in
        let of_op : op ≡ op_at_pc (setup_here p) s h = is ∙ same_op in
        ap (λ pc. checked image op (exec op pc a b)) keeps.state.pc
        ∙ ap (λ n. checked image op (exec op (s.pcs h) n b))
        (keeps.state.registers (first_source op) (first_below op in_range))
        ∙ ap (λ n. checked image op (exec op (s.pcs h) (read_register s h (first_source op)) n))
        (keeps.state.registers (second_source op) (second_below op in_range))
        ∙ ap (λ o. computed_on (setup_here p) o (s.pcs h) (read_register s h (first_source o))
        (read_register s h (second_source o))) of_op

-- ---- Where an access lies

loaded : (op : LoadOp) → IsSize (load_size op)
loaded Lb = inl refl
loaded Lh = inr (inl refl)
loaded Lw = inr (inr refl)
loaded Lbu = inl refl
loaded Lhu = inr (inl refl)

stored : (op : StoreOp) → IsSize (store_size op)
stored Sb = inl refl
stored Sh = inr (inl refl)
stored Sw = inr (inr refl)

sized_known : (i : Instr) → IsSize (access_size (Known i))
unfolding access_size
sized_known (Load op _ _ _) = loaded op
sized_known (Store op _ _ _) = stored op
sized_known _ = inr (inr refl)

sized : (op : Op) → IsSize (access_size op)
unfolding access_size
sized (Known i) = sized_known i
sized Illegal = inr (inr refl)
sized NoWord = inr (inr refl)

-- It lies in one word.
in_word : (addr n k : ℕ) → IsSize n → addr % n ≡ 0 → k < n → word_of_address (addr + k) ≡ word_of_address addr
in_word addr n k (inl one) aligned less =
    let none : addr + k ≡ addr = omega (arith, one, less) in ap word_of_address none
in_word addr n k (inr (inl two)) aligned less =
    let even : addr % 2 ≡ 0 = subst (λ m. addr % m ≡ 0) two aligned in omega (arith, two, even, less)
in_word addr n k (inr (inr four)) aligned less =
    let whole : addr % 4 ≡ 0 = subst (λ m. addr % m ≡ 0) four aligned in omega (arith, four, whole, less)

read_aligned : (image : ProgramImage) (addr n : ℕ) → read_fault image addr n ≡ None → addr % n ≡ 0
read_aligned image addr n none = grind (arith, nat_tests)

read_in_ram : (image : ProgramImage) (addr n k : ℕ) → read_fault image addr n ≡ None → k < n
    → in_ram image (addr + k) 1 ≡ true
read_in_ram image addr n k none less = grind (arith, nat_tests)

write_aligned : (image : ProgramImage) (addr n : ℕ) → write_fault image addr n ≡ None → addr % n ≡ 0
write_aligned image addr n none = grind (arith, nat_tests)

-- A write changes no byte of another word.
pub other_word : (image : ProgramImage) (w : Written) (addr before : ℕ) → CanWrite image w
    → (word_of_address addr ≡ word_of_address w.addr → ⊥) → written_byte w addr before ≡ before
other_word image w addr before can other = elim (cases_Bool (nat_le w.addr addr && nat_lt addr (w.addr + w.n))) [
  | inl inside ↦ absurd (other
      (let there : w.addr + (addr - w.addr) ≡ addr = grind (arith, nat_tests) in
      let less : addr - w.addr < w.n = grind (arith, nat_tests) in
      subst (λ a. word_of_address a ≡ word_of_address w.addr) there
      (in_word w.addr w.n (addr - w.addr) can.size (write_aligned image w.addr w.n can.no_fault) less)))
  | inr outside ↦ rw outside refl
]

pub apart : (b : Bool) → b ≡ false → b ≡ true → ⊥
apart b is_false is_true = grind (arith, is_false, is_true)

-- ---- What an instruction reads and does

number_same : (f g : ℕ → ℕ) (addr n : ℕ) → ((k : ℕ) → k < n → f (addr + k) ≡ g (addr + k))
    → number_at f addr n ≡ number_at g addr n
number_same f g addr zero same = refl
number_same f g addr (suc n) same =
    let here : f addr ≡ g addr = subst (λ a. f a ≡ g a) (omega arith) (same 0 (omega arith)) in
    let later = number_same f g (addr + 1) n
    (λ k less. subst (λ a. f a ≡ g a) (omega arith) (same (k + 1) (omega (arith, less)))) in
    rw (here, later) refl

-- What is read of a hart's own word is what it has written there.
read_own : (p : Program) (shared : List ℕ) (w : Way) (hart : Hart) (op : Op) (addr : ℕ) → Keeps p shared w hart
    → reads_memory (kind_of op) ≡ true → fault p.memory.image op addr ≡ None
    → is_some (location_of shared (word_of_address addr)) ≡ false
    → read op (own_byte p.memory.image hart.own.items) addr ≡ read op w.state.bytes addr
read_own p shared w hart op addr keeps reads none unshared =
    let image = p.memory.image in
    let can = can_read image op addr reads none in
    ap (read_value op) (number_same (own_byte image hart.own.items) w.state.bytes addr (access_size op)
    (λ k less. keeps.own (addr + k) (record {
      inside = read_in_ram image addr (access_size op) k can less;
      unshared = subst (λ word. is_some (location_of shared word) ≡ false)
          (sym (in_word addr (access_size op) k (sized op) (read_aligned image addr (access_size op) can) less)) unshared;
    })))

by_kind : (kind : Kind) (op : Op) (writes : Bool) (c : Computed) (n m : ℕ) (held has : Bool)
    → (reads_memory kind ≡ true → n ≡ m) → (kind ≡ Conditional → held ≡ has)
    → effect_by kind op writes c n held ≡ effect_by kind op writes c m has
by_kind Computing op writes c n m held has number is = refl
by_kind Loading op writes c n m held has number is = let same = number refl in rw same refl
by_kind Storing op writes c n m held has number is = refl
by_kind Reserving op writes c n m held has number is = let same = number refl in rw same refl
by_kind Conditional op writes c n m held has number is = let same = is refl in rw same refl
by_kind Atomic op writes c n m held has number is = let same = number refl in rw same refl

-- An effect asks for the number of what reads, and for the reservation of a store-conditional.
pub same_effect : (op : Op) (c : Computed) (n m : ℕ) (held has : Bool) → (reads_memory (kind_of op) ≡ true → n ≡ m)
    → (kind_of op ≡ Conditional → held ≡ has) → effect_of op c n held ≡ effect_of op c m has
same_effect op c n m held has number is = elim (cases_Bool (is_last c.next)) [
  | inl last ↦ rw last refl
  | inr goes ↦ rw goes (by_kind (kind_of op) op (writes_register op) c n m held has number is)
]

-- What writes accesses memory, may write, and writes at its address.
pub record Writes (kind : Kind) (held : Bool) (c : Computed) (w : Written) : Type 0 where
  pub accesses : accesses_memory kind held ≡ true
  pub may : may_write kind ≡ true
  pub at : w.addr ≡ c.addr

writes_by : (kind : Kind) (op : Op) (writes : Bool) (c : Computed) (n : ℕ) (held : Bool) (w : Written)
    → (effect_by kind op writes c n held).write ≡ Some w → Writes kind held c w
writes_by Computing op writes c n held w is = absurd (grind (arith, is))
writes_by Loading op writes c n held w is = absurd (grind (arith, is))
writes_by Storing op writes c n held w is = record { accesses = refl; may = refl; at = grind (arith, is) }
writes_by Reserving op writes c n held w is = absurd (grind (arith, is))
writes_by Conditional op writes c n true w is = record { accesses = refl; may = refl; at = grind (arith, is) }
writes_by Conditional op writes c n false w is = absurd (grind (arith, is))
writes_by Atomic op writes c n held w is = record { accesses = refl; may = refl; at = grind (arith, is) }

pub writes_at : (op : Op) (c : Computed) (n : ℕ) (held : Bool) (w : Written) → is_last c.next ≡ false
    → (effect_of op c n held).write ≡ Some w → Writes (kind_of op) held c w
writes_at op c n held w goes is = writes_by (kind_of op) op (writes_register op) c n held w
    (subst (λ b. (if b then last_effect c.next else effect_by (kind_of op) op (writes_register op) c n held).write ≡ Some w)
    goes is)

-- ---- Behind a step

-- Of a word all bytes are code, or none, where the code begins and ends with a word.
code_words : (start size word addr : ℕ) → start % 4 ≡ 0 → size % 4 ≡ 0
    → (nat_le start word && nat_lt word (start + size)) ≡ false
    → (nat_le start addr && nat_lt addr (start + size)) ≡ true → addr - addr % 4 ≡ word → ⊥
code_words start size word addr start_at size_at out inside same = grind (arith, nat_tests)

-- What is read or written lies where the hart's own bytes are, or apart from these.
module _ (p : Program) (program : IsProgram p) where
  code_apart : (word addr : ℕ) → in_code p.memory.image word ≡ false → in_code p.memory.image addr ≡ true
      → word_of_address addr ≡ word → ⊥
  code_apart word addr out inside same =
      let start_at : code_start p.memory.image % 4 ≡ 0 = subst (λ a. a % 4 ≡ 0) program.code.start program.code.aligned in
      let size = program.code.size in
      let size_at : code_size p.memory.image % 4 ≡ 0 = omega (arith, size) in
      code_words (code_start p.memory.image) (code_size p.memory.image) word addr start_at size_at out inside same

  -- A write elsewhere leaves the code.
  kept_code : (w : Written) (a before : ℕ) → CanWrite p.memory.image w
      → in_code p.memory.image (word_of_address w.addr) ≡ false → in_code p.memory.image a ≡ true
      → written_byte w a before ≡ before
  kept_code w a before can out inside =
      other_word p.memory.image w a before can (code_apart (word_of_address w.addr) a out inside)

  code_behind_write : (op : Op) (c : Computed) (n : ℕ) (held : Bool) (write : Option Written) (a before : ℕ)
      → HasNoFault p.memory.image op c → is_last c.next ≡ false → (effect_of op c n held).write ≡ write
      → (accesses_memory (kind_of op) held ≡ true → IsNoCode p op c.addr) → in_code p.memory.image a ≡ true
      → byte_after write a before ≡ before
  code_behind_write op c n held None a before none goes is no_code inside = refl
  code_behind_write op c n held (Some w) a before none goes is no_code inside =
      let writes = writes_at op c n held w goes is in
      let can : CanWrite p.memory.image w =
      subst (λ o. IfSome o (CanWrite p.memory.image)) is (can_write p.memory.image op c n held none) in
      kept_code w a before can
      (subst (λ addr. in_code p.memory.image (word_of_address addr) ≡ false) (sym writes.at)
      (no_code writes.accesses writes.may)) inside

  -- So does an instruction that may not write there.
  pub code_behind : (op : Op) (c : Computed) (n : ℕ) (held : Bool) (a before : ℕ)
      → HasNoFault p.memory.image op c → is_last c.next ≡ false
      → (accesses_memory (kind_of op) held ≡ true → IsNoCode p op c.addr) → in_code p.memory.image a ≡ true
      → byte_after (effect_of op c n held).write a before ≡ before
  code_behind op c n held a before none goes no_code inside =
      code_behind_write op c n held (effect_of op c n held).write a before none goes refl no_code inside

  own_behind_write : (shared : List ℕ) (op : Op) (c : Computed) (n : ℕ) (held : Bool) (write : Option Written)
      (a before : ℕ) → HasNoFault p.memory.image op c → is_last c.next ≡ false → (effect_of op c n held).write ≡ write
      → is_some (location_of shared (word_of_address c.addr)) ≡ true → IsOwn p.memory.image shared a
      → byte_after write a before ≡ before
  own_behind_write shared op c n held None a before none goes is shares own = refl
  own_behind_write shared op c n held (Some w) a before none goes is shares own =
      let writes = writes_at op c n held w goes is in
      let can : CanWrite p.memory.image w =
      subst (λ o. IfSome o (CanWrite p.memory.image)) is (can_write p.memory.image op c n held none) in
      other_word p.memory.image w a before can
      (λ same. apart (is_some (location_of shared (word_of_address a))) own.unshared
      (subst (λ word. is_some (location_of shared word) ≡ true)
      (sym (same ∙ ap word_of_address writes.at)) shares))

  -- An access to a shared word leaves the bytes of a hart's own words.
  pub own_behind : (shared : List ℕ) (op : Op) (c : Computed) (n : ℕ) (held : Bool) (a before : ℕ)
      → HasNoFault p.memory.image op c → is_last c.next ≡ false
      → is_some (location_of shared (word_of_address c.addr)) ≡ true → IsOwn p.memory.image shared a
      → byte_after (effect_of op c n held).write a before ≡ before
  own_behind shared op c n held a before none goes shares own =
      own_behind_write shared op c n held (effect_of op c n held).write a before none goes refl shares own

-- The state of the hart behind a step.
state_advanced : (w : Way) (op : Op) (addr : ℕ) (x : Effect) (before after_it : Hart) (h : ℕ) → h ≡ before.index
    → HartAgrees w.state h before.state → HasAdvanced op addr x before after_it
    → HartAgrees (after w.state h op addr x) h after_it.state
state_advanced w op addr x before after_it h at agrees moved =
    own_hart w.state h op addr x before.state after_it.state agrees moved.registers moved.pc moved.status

-- The reservation.
reserved_advanced : (w : Way) (op : Op) (addr : ℕ) (x : Effect) (h : ℕ) (before now : Option ℕ)
    → before ≡ w.state.reserved h → now ≡ reservation_after op addr x true before
    → now ≡ (after w.state h op addr x).reserved h
reserved_advanced w op addr x h before now was is =
    let here : (h == h) ≡ true = grind (arith, nat_tests) in
    is ∙ ap (reservation_after op addr x true) was
    ∙ ap (λ b. reservation_after op addr x b (w.state.reserved h)) (sym here)

-- What reads accesses memory, and only a store-conditional asks for a reservation.
pub reads_accesses : (kind : Kind) (held : Bool) → reads_memory kind ≡ true → accesses_memory kind held ≡ true
reads_accesses Computing held reads = absurd (grind (arith, reads))
reads_accesses Loading held reads = refl
reads_accesses Storing held reads = refl
reads_accesses Reserving held reads = refl
reads_accesses Conditional held reads = absurd (grind (arith, reads))
reads_accesses Atomic held reads = refl

same_accesses : (kind : Kind) (held has : Bool) → (kind ≡ Conditional → held ≡ has)
    → accesses_memory kind held ≡ accesses_memory kind has
same_accesses Computing held has same = refl
same_accesses Loading held has same = refl
same_accesses Storing held has same = refl
same_accesses Reserving held has same = refl
same_accesses Conditional held has same = same refl
same_accesses Atomic held has same = refl

-- Two lists that go together, with one more of each; and they are as long.
pub zip_more : {A B : Type 0} (R : A → B → Type 0) (xs : List A) (ys : List B) (x : A) (y : B) → AllZip R xs ys → R x y
    → AllZip R (xs ++ x ∷ []) (ys ++ y ∷ [])
zip_more R [] [] x y all one = (one, tt)
zip_more R [] (b ∷ ys) x y all one = absurd all
zip_more R (a ∷ xs) [] x y all one = absurd all
zip_more R (a ∷ xs) (b ∷ ys) x y all one = (all.0, zip_more R xs ys x y all.1 one)

zip_length : {A B : Type 0} (R : A → B → Type 0) (xs : List A) (ys : List B) → AllZip R xs ys → length ys ≡ length xs
zip_length R [] [] all = refl
zip_length R [] (b ∷ ys) all = absurd all
zip_length R (a ∷ xs) [] all = absurd all
zip_length R (a ∷ xs) (b ∷ ys) all = let same = zip_length R xs ys all.1 in omega (arith, same)

-- A hart before it moves, but for its own words, its accesses and its last load-reserved.
pub record IsSame (before mid : Hart) : Type 0 where
  pub state : mid.state ≡ before.state
  pub index : mid.index ≡ before.index
  pub reserved : mid.reserved ≡ before.reserved

module _ (p : Program) (shared : List ℕ) (program : IsProgram p) (w : Way) (before : Hart)
    (on : IsOnWay (setup_here p) shared before.index w) (keeps : Keeps p shared w before) where
  abbrev setup : Setup
  setup = setup_here p

  op_now : (op : Op) → op ≡ op_of p before → op ≡ op_at_pc setup w.state before.index
  op_now op is = is ∙ same_op p shared w before program keeps

  computed_now : (op : Op) (c : Computed) → OpInRange op → op ≡ op_of p before
      → c ≡ computed_here p.memory before.state op → c ≡ computes setup w.state before.index
  computed_now op c in_range is of = of ∙ same_computed p shared w before program keeps op in_range is

  accesses_now : (op : Op) (c : Computed) → op ≡ op_at_pc setup w.state before.index
      → c ≡ computes setup w.state before.index
      → accesses_memory (kind_of op) (holds_word before.reserved c.addr) ≡ accesses_at setup w.state before.index
  accesses_now op c of_op of_c =
      ap (λ r. accesses_memory (kind_of op) (holds_word r c.addr)) keeps.reserved
      ∙ ap (λ o. accesses_memory (kind_of o) (holds_word (w.state.reserved before.index) c.addr)) of_op
      ∙ ap (λ (d : Computed). accesses_memory (kind_of (op_at_pc setup w.state before.index))
      (holds_word (w.state.reserved before.index) d.addr)) of_c

  -- What is the same of the state behind each step.
  behind : (op : Op) (c : Computed) (x : Effect) (mid moved : Hart) (y : Effect)
      → op ≡ op_at_pc setup w.state before.index → c ≡ computes setup w.state before.index → x ≡ y → IsSame before mid
      → HasAdvanced op c.addr x mid moved
      → HartAgrees (state_behind setup w.state before.index y) before.index moved.state
      × (moved.reserved ≡ (state_behind setup w.state before.index y).reserved before.index)
  behind op c x mid moved y of_op of_c of_x same moves =
      let h = before.index in
      let op' = op_at_pc setup w.state h in
      let addr' = address_at setup w.state h in
      let here : HasAdvanced op' addr' y mid moved =
      subst (λ (e : Effect). HasAdvanced op' addr' e mid moved) of_x
      (subst (λ (d : Computed). HasAdvanced op' d.addr x mid moved) of_c
      (subst (λ o. HasAdvanced o c.addr x mid moved) of_op moves)) in (
        own_hart w.state h op' addr' y mid.state moved.state
            (subst (λ (z : State). HartAgrees w.state h z) (sym same.state) keeps.state)
            here.registers here.pc here.status,
        reserved_advanced w op' addr' y h mid.reserved moved.reserved (same.reserved ∙ keeps.reserved) here.reserved,
      )

  module _ (op : Op) (c : Computed) (number : ℕ) (held : Bool) (goes : GoesAlone p shared before op c number held) where
    of_op : op ≡ op_at_pc setup w.state before.index
    of_op = op_now op goes.op_is

    of_computed : c ≡ computes setup w.state before.index
    of_computed = computed_now op c goes.in_range goes.op_is
        (goes.computed ∙ ap (computed_here p.memory before.state) (sym goes.op_is))

    of_effect : effect_of op c number held ≡ effect_at setup w.state before.index
    of_effect =
        let s = w.state in
        let h = before.index in
        same_effect op c number (read op s.bytes c.addr) held (holds_word (s.reserved h) c.addr)
        (λ reads. goes.number_is reads
        ∙ read_own p shared w before op c.addr keeps reads (goes.no_fault goes.goes)
        (goes.alone (reads_accesses (kind_of op) (holds_word before.reserved c.addr) reads)).0)
        (λ is. goes.held_is is ∙ ap (λ r. holds_word r c.addr) keeps.reserved)
        ∙ ap (λ o. effect_of o c (read o s.bytes c.addr) (holds_word (s.reserved h) c.addr)) of_op
        ∙ ap (λ (d : Computed). effect_of (op_at_pc setup s h) d (read (op_at_pc setup s h) s.bytes d.addr)
        (holds_word (s.reserved h) d.addr)) of_computed

    is_alone : IsAlone setup shared w.state before.index
    is_alone = record {
      goes = subst (λ (d : Computed). is_last d.next ≡ false) of_computed goes.goes;
      alone = λ accesses.
          subst (λ (d : Computed). is_some (location_of shared (word_of_address d.addr)) ≡ false) of_computed
          (goes.alone (accesses_now op c of_op of_computed ∙ accesses)).0;
    }

    -- Behind a step by what the hart has itself.
    pub alone_behind : (x : Effect) (mid moved : Hart) → x ≡ effect_of op c number held → IsSame before mid
        → mid.accesses ≡ before.accesses → mid.reserving ≡ before.reserving
        → ((a : ℕ) → in_ram p.memory.image a 1 ≡ true → own_byte p.memory.image mid.own.items a
        ≡ byte_after x.write a (own_byte p.memory.image before.own.items a))
        → HasAdvanced op c.addr x mid moved → HasWay p shared moved
    alone_behind x mid moved of_x same accesses reserving own moves =
        let h = before.index in
        let image = p.memory.image in
        let y = effect_at setup w.state h in
        let is : x ≡ y = of_x ∙ of_effect in
        let there = behind op c x mid moved y of_op of_computed is same moves in
        let at : moved.index ≡ h = moves.index ∙ same.index in
        record {
          way = way_alone setup w h;
          on = subst (λ i. IsOnWay setup shared i (way_alone setup w h)) (sym at) (behind_own h w on is_alone);
          keeps = record {
            state = subst (λ i. HartAgrees (state_behind setup w.state h y) i moved.state) (sym at) there.0;
            accesses = subst (λ (v : Vec Access Global). AllZip (IsTold shared p.places.items) w.made v.items)
                (sym (moves.accesses ∙ accesses)) keeps.accesses;
            own = λ a inside.
                ap (λ (v : Vec OwnWord Global). own_byte image v.items a) moves.own ∙ own a inside.inside
                ∙ ap (byte_after x.write a) (keeps.own a inside)
                ∙ ap (λ (e : Effect). byte_after e.write a (w.state.bytes a)) is;
            reserved = subst (λ i. moved.reserved ≡ (state_behind setup w.state h y).reserved i) (sym at) there.1;
            reserving = moves.reserving ∙ reserving ∙ keeps.reserving;
            code = λ a inside.
                ap (λ (e : Effect). byte_after e.write a (w.state.bytes a)) (sym of_effect)
                ∙ code_behind p program op c number held a (w.state.bytes a) goes.no_fault goes.goes
                (λ accesses. (goes.alone (sym (same_accesses (kind_of op) held (holds_word before.reserved c.addr)
                goes.held_is) ∙ accesses)).1) inside
                ∙ keeps.code a inside;
          };
        }

  -- Behind an access to a word that harts share.
  module _ (sharing : Sharing) (c : Computed) (found : Found) (at : IsAt p shared before sharing)
      (of : c ≡ computed_here p.memory before.state sharing.op) (none : HasNoFault p.memory.image sharing.op c)
      (place : found.location ≡ Some sharing.location)
      (may : reads_memory (kind_of sharing.op) ≡ true → MayHaveAt (setup_here p) shared sharing.location found.number)
    where
      its_op : sharing.op ≡ op_at_pc setup w.state before.index
      its_op = op_now sharing.op at.op

      its_computed : c ≡ computes setup w.state before.index
      its_computed = computed_now sharing.op c at.in_range at.op of

      its_address : sharing.address ≡ c.addr
      its_address = at.address
          ∙ ap (λ (d : Computed). d.addr) (ap (computed_here p.memory before.state) (sym at.op) ∙ sym of)

      goes_on : is_last c.next ≡ false
      goes_on = subst (λ (d : Computed). is_last d.next ≡ false)
          (ap (computed_here p.memory before.state) (sym at.op) ∙ sym of) at.goes

      shares : location_of shared (word_of_address c.addr) ≡ Some sharing.location
      shares = subst (λ a. location_of shared (word_of_address a) ≡ Some sharing.location) its_address at.location

      is_sharing : IsSharing setup shared w.state before.index
      is_sharing = record {
        goes = subst (λ (d : Computed). is_last d.next ≡ false) its_computed goes_on;
        accesses = sym (accesses_now sharing.op c its_op its_computed)
            ∙ subst (λ a. accesses_memory (kind_of sharing.op) (holds_word before.reserved a) ≡ true) its_address at.accesses;
        shares = subst (λ (d : Computed). is_some (location_of shared (word_of_address d.addr)) ≡ true) its_computed
            (ap is_some shares);
        whole = subst (λ o. access_size o ≡ 4) its_op at.whole;
      }

      its_effect : effect_of sharing.op c found.number found.held
          ≡ effect_found setup w.state before.index found.number found.held
      its_effect =
          ap (λ o. effect_of o c found.number found.held) its_op
          ∙ ap (λ (d : Computed). effect_of (op_at_pc setup w.state before.index) d found.number found.held) its_computed

      may_have : reads_memory (kind_of (op_at_pc setup w.state before.index)) ≡ true
          → MayHave setup shared (word_of_address (address_at setup w.state before.index)) found.number
      may_have reads =
          may (subst (λ o. reads_memory (kind_of o) ≡ true) (sym its_op) reads)
          (word_of_address (address_at setup w.state before.index))
          (subst (λ (d : Computed). location_of shared (word_of_address d.addr) ≡ Some sharing.location) its_computed shares)

      told : (x : Effect) (step : ℕ) (access : Access) → x ≡ effect_of sharing.op c found.number found.held
          → IsPlaceOf p.places.items step before.state.pc sharing.op
          → IsMade sharing.op found x.write step before.reserving (Some access)
          → IsTold shared p.places.items (made_by setup w before.index found.number
          (effect_found setup w.state before.index found.number found.held)) access
      told x step access of_x stands made =
          let h = before.index in
          record {
            step = subst (λ n. IsPlaceOf p.places.items n (w.state.pcs h) (op_at_pc setup w.state h)) (sym made.3)
                (subst (λ o. IsPlaceOf p.places.items step (w.state.pcs h) o) its_op
                (subst (λ pc. IsPlaceOf p.places.items step pc sharing.op) keeps.state.pc stands));
            location = subst (λ (d : Computed). location_of shared (word_of_address d.addr) ≡ Some access.location)
                its_computed (shares ∙ sym place ∙ made.0);
            reads = made.1 ∙ ap (λ o. number_read (kind_of o) found.number) its_op;
            writes = made.2 ∙ ap (λ (e : Effect). datum_of e.write) (of_x ∙ its_effect);
            reserved_by = made.4 ∙ ap (λ o. reserving_of (kind_of o) before.reserving) its_op
                ∙ ap (reserving_of (kind_of (op_at_pc setup w.state h))) keeps.reserving;
          }

      pub shared_behind : (x : Effect) (step : ℕ) (access : Access) (mid moved : Hart)
          → x ≡ effect_of sharing.op c found.number found.held
          → IsPlaceOf p.places.items step before.state.pc sharing.op
          → IsMade sharing.op found x.write step before.reserving (Some access) → IsSame before mid
          → mid.own.items ≡ before.own.items → mid.accesses.items ≡ before.accesses.items ++ access ∷ []
          → mid.reserving ≡ reserving_behind (kind_of sharing.op) before.reserving (length before.accesses.items)
          → HasAdvanced sharing.op sharing.address x mid moved → HasWay p shared moved
      shared_behind x step access mid moved of_x stands made same own accesses reserving moves =
          let h = before.index in
          let image = p.memory.image in
          let y = effect_found setup w.state h found.number found.held in
          let next = way_sharing setup w h found.number found.held in
          let is : x ≡ y = of_x ∙ its_effect in
          let there = behind sharing.op c x mid moved y its_op its_computed is same
          (subst (λ a. HasAdvanced sharing.op a x mid moved) its_address moves) in
          let index : moved.index ≡ h = moves.index ∙ same.index in
          let zipped : AllZip (IsTold shared p.places.items) next.made (before.accesses.items ++ access ∷ []) =
          zip_more (IsTold shared p.places.items) w.made before.accesses.items _ access keeps.accesses
          (told x step access of_x stands made) in
          record {
            way = next;
            on = subst (λ i. IsOnWay setup shared i next) (sym index)
                (behind_shared h w found.number found.held on is_sharing may_have);
            keeps = record {
              state = subst (λ i. HartAgrees next.state i moved.state) (sym index) there.0;
              accesses = subst (λ (xs : List Access). AllZip (IsTold shared p.places.items) next.made xs)
                  (sym (ap (λ (v : Vec Access Global). v.items) moves.accesses ∙ accesses)) zipped;
              own = λ a inside.
                  ap (λ (v : Vec OwnWord Global). own_byte image v.items a) moves.own
                  ∙ ap (λ (xs : List OwnWord). own_byte image xs a) own
                  ∙ keeps.own a inside
                  ∙ sym (own_behind p program shared sharing.op c found.number found.held a (w.state.bytes a) none goes_on
                  (ap is_some shares) inside)
                  ∙ ap (λ (e : Effect). byte_after e.write a (w.state.bytes a)) its_effect;
              reserved = subst (λ i. moved.reserved ≡ next.state.reserved i) (sym index) there.1;
              reserving = moves.reserving ∙ reserving
                  ∙ ap (λ o. reserving_behind (kind_of o) before.reserving (length before.accesses.items)) its_op
                  ∙ ap (λ n. reserving_behind (kind_of (op_at_pc setup w.state h)) n (length before.accesses.items))
                  keeps.reserving
                  ∙ ap (reserving_behind (kind_of (op_at_pc setup w.state h)) w.reserving)
                  (zip_length (IsTold shared p.places.items) w.made before.accesses.items keeps.accesses);
              code = λ a inside.
                  ap (λ (e : Effect). byte_after e.write a (w.state.bytes a)) (sym its_effect)
                  ∙ code_behind p program sharing.op c found.number found.held a (w.state.bytes a) none goes_on
                  (λ accesses. subst (IsNoCode p sharing.op) its_address at.code) inside
                  ∙ keeps.code a inside;
            };
          }
