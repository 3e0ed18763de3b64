-- Code that may not be written stays what the image has: what is written has no fault, so it meets no such code.
use Rattle.std.specs.Prelude.{◌≡◌, ℕ, ◌+◌, ◌%◌, Bool, true, false, not, ◌==◌, ◌&&◌, ◌||◌, nat_le, nat_lt, if◌then◌else◌}
use Rattle.std.specs.Prelude.{min, max, List, [], ◌∷◌, Option, Some, None, IfSome, option_map, unwrap_or}
use Rattle.std.proofs.Common.{◌∙◌, refl, sym, ap, subst, inl, inr, arith}
use Rattle.std.proofs.{lemmas.Bool.cases_Bool, lemmas.Bool.Decides.nat_tests}
use Rattle.elf_image.specs.Image.{ProgramImage, in_ram, in_code, touches_code, code_writable, code_start, code_size}
use Rattle.elf_image.specs.Image.{word_now, code_word}
use Rattle.elf_image.proofs.Words.{word_now-kept}
use Rattle.rv_instr.specs.{declared.op.Op.Op, declared.op.Op.TheVariants.Known, declared.op.Op.TheVariants.Illegal}
use Rattle.rv_instr.specs.{declared.op.Op.TheVariants.NoWord, declared.instr.Instr.Instr}
use Rattle.rv_instr.specs.declared.instr.Instr.TheVariants.{Load, Store}
use Rattle.events.specs.{declared.effect.Effect.Effect, declared.effect.Written.Written, declared.effect.Next.Next}
use Rattle.events.specs.{declared.effect.Next.TheVariants.Stopped, declared.event.Event.Event}
use Rattle.events.specs.declared.event.Event.TheVariants.{Fetch, Decode, Rename, Issue, Complete, Drop, Retire, Refetch}
use Rattle.smt_model.specs.{Setup.Setup, Exec.Computed, Exec.exec, Nexts.is_last, Effects.effect_by, Effects.effect_of}
use Rattle.smt_model.specs.{Bytes.read, Bytes.byte_after, Bytes.written_byte, Reservations.holds_word}
use Rattle.smt_model.specs.{Memory.byte_at, Memory.reserved, Plain.op_at_pc, Plain.read_register}
use Rattle.smt_model.specs.{Basics.or_zero, Registers.operand, Rules.refused, Rules.is_legal, Fates.Fetched}
use Rattle.smt_model.specs.Fates.{fetching, op_of_fetched}
use Rattle.smt_model.specs.Faults.{fault, fault_of, write_fault, touches_fixed_code, checked}
use Rattle.smt_model.specs.Kinds.{Kind, Computing, Loading, Storing, Reserving, Conditional, Atomic, kind_of}
use Rattle.smt_model.specs.Kinds.{access_size, is_loading, is_storing, writes_register, first_source, second_source}
use Rattle.smt_model.proofs.{Allowed.fetch_allowed, Fates.Moves.same_number-is}
use Rattle.smt_model.proofs.{Fates.Moves.retire_was, Fates.Numbers.known_fetched}
use Rattle.smt_laws.proofs.Registers.Values.{retire_says}
use Rattle.smt_laws.proofs.Done.{some_one}
use Rattle.smt_laws.specs.Code.{HoldsItsCode, HistoriesKeepCode, StepsKeepCode}

-- ---- A write without a fault meets no code that may not be written

-- Of an effect that is allowed: what it writes, if anything, has no fault.
abbrev pub HasNoFault : ProgramImage → Written → Type 0
HasNoFault image w = write_fault image w.addr w.n ≡ None

abbrev cause_by : Bool → Bool → Bool → Option ℕ
cause_by aligned inside touches = if not aligned then Some 6 else (if not inside || touches then Some 7 else None)

misses_by : (aligned inside touches : Bool) → cause_by aligned inside touches ≡ None → touches ≡ false
misses_by true true true none = absurd (grind arith)
misses_by true false true none = absurd (grind arith)
misses_by false inside true none = absurd (grind arith)
misses_by aligned inside false none = refl

apart : (start size addr n a : ℕ) → nat_lt (max addr start) (min (addr + n) (start + size)) ≡ false
    → (nat_le start a && nat_lt a (start + size)) ≡ true → (nat_le addr a && nat_lt a (addr + n)) ≡ false
apart start size addr n a misses there = grind (arith, nat_tests)

pub code_spared : (image : ProgramImage) → code_writable image ≡ false → (w : Written) → HasNoFault image w
    → (a before : ℕ) → in_code image a ≡ true → written_byte w a before ≡ before
code_spared image fixed w none a before there =
    let misses : touches_fixed_code image w.addr w.n ≡ false =
    misses_by (w.addr % w.n == 0) (in_ram image w.addr w.n) (touches_fixed_code image w.addr w.n) none in
    let meets : touches_code image w.addr w.n ≡ false = rw fixed at misses in
    rw (apart (code_start image) (code_size image) w.addr w.n a meets there) refl

spared_by : (image : ProgramImage) → code_writable image ≡ false → (o : Option Written) → IfSome o (HasNoFault image)
    → (a before : ℕ) → in_code image a ≡ true → byte_after o a before ≡ before
spared_by image fixed None none a before there = refl
spared_by image fixed (Some w) none a before there = code_spared image fixed w none a before there

-- ---- What an instruction writes has no fault

word_moved_by : (i : Instr) → is_loading (kind_of (Known i)) ≡ false → is_storing (kind_of (Known i)) ≡ false
    → access_size (Known i) ≡ 4
unfolding kind_of access_size
word_moved_by (Load _ _ _ _) loads stores = absurd (grind arith)
word_moved_by (Store _ _ _ _) loads stores = absurd (grind arith)
word_moved_by _ loads stores = refl

-- What is neither a load nor a store moves a word.
word_moved : (op : Op) → is_loading (kind_of op) ≡ false → is_storing (kind_of op) ≡ false → access_size op ≡ 4
unfolding access_size
word_moved (Known i) loads stores = word_moved_by i loads stores
word_moved Illegal loads stores = refl
word_moved NoWord loads stores = refl

held_write : (image : ProgramImage) (held : Bool) (w : Written) → HasNoFault image w
    → IfSome (if held then Some w else None) (HasNoFault image)
held_write image true w none = none
held_write image false w none = tt

written_by : (k : Kind) (image : ProgramImage) (op : Op) (c : Computed) (now : ℕ) (held : Bool) → kind_of op ≡ k
    → fault_of k image c.addr (access_size op) ≡ None
    → IfSome (effect_by k op (writes_register op) c now held).write (HasNoFault image)
written_by Computing image op c now held is none = tt
written_by Loading image op c now held is none = tt
written_by Storing image op c now held is none = none
written_by Reserving image op c now held is none = tt
written_by Conditional image op c now held is none =
    held_write image held _
    (subst (λ n. write_fault image c.addr n ≡ None) (word_moved op (ap is_loading is) (ap is_storing is)) none)
written_by Atomic image op c now held is none =
    subst (λ n. write_fault image c.addr n ≡ None) (word_moved op (ap is_loading is) (ap is_storing is)) none

-- What goes on has no fault.
fault_none : (cause : Option ℕ) (next : Next) → is_last (unwrap_or (option_map Stopped cause) next) ≡ false
    → cause ≡ None
fault_none None next going = refl
fault_none (Some cause) next going = absurd (grind arith)

checked_fault : (image : ProgramImage) (op : Op) (c : Computed) → is_last (checked image op c).next ≡ false
    → fault image op (checked image op c).addr ≡ None
unfolding checked
checked_fault image op c going =
    elim (cases_Bool (is_last c.next)) [
      | inl last ↦ absurd (let same : is_last c.next ≡ false = rw last at going in grind arith)
      | inr on ↦
          let same : is_last (unwrap_or (option_map Stopped (fault image op c.addr)) c.next) ≡ false =
          rw on at going in
          rw on (fault_none (fault image op c.addr) c.next same)
    ]

written_checked : (image : ProgramImage) (op : Op) (c : Computed) (now : ℕ) (held : Bool)
    → (is_last c.next ≡ false → fault image op c.addr ≡ None)
    → IfSome (effect_of op c now held).write (HasNoFault image)
unfolding fault
written_checked image op c now held none =
    elim (cases_Bool (is_last c.next)) [
      | inl last ↦ rw last tt
      | inr going ↦ rw going (written_by (kind_of op) image op c now held refl (none going))
    ]

-- So the code has the same bytes after an effect that is allowed.
pub code_kept : (image : ProgramImage) → code_writable image ≡ false → (op : Op) (c : Computed) (now : ℕ) (held : Bool)
    → (bytes : ℕ → ℕ) → HoldsItsCode image bytes
    → HoldsItsCode image (λ a. byte_after (effect_of op (checked image op c) now held).write a (bytes a))
code_kept image fixed op c now held bytes holds pc =
    let x = effect_of op (checked image op c) now held in
    let none = written_checked image op (checked image op c) now held (checked_fault image op c) in
    word_now-kept image (λ a. byte_after x.write a (bytes a)) bytes
    (λ a there. spared_by image fixed x.write none a (bytes a) there) pc
    ∙ holds pc

-- ---- The laws

pub steps_keep_code : StepsKeepCode
steps_keep_code setup fixed s h holds =
    let op = op_at_pc setup s h in
    let c = exec op (s.pcs h) (read_register s h (first_source op)) (read_register s h (second_source op)) in
    let addr = (checked setup.image op c).addr in
    code_kept setup.image fixed op c (read op s.bytes addr) (holds_word (s.reserved h) addr) s.bytes holds

-- What retires is the effect of its instruction on what memory has now.
code_retired : (setup : Setup) → code_writable setup.image ≡ false → (past : List Event) → is_legal setup past
    → (actor n : ℕ) (x : Effect) → refused setup past (Retire actor n x) ≡ None
    → HoldsItsCode setup.image (byte_at setup past) → HoldsItsCode setup.image (byte_at setup (Retire actor n x ∷ past))
code_retired setup fixed past legal actor n x ok holds =
    let was = retire_was setup past actor n x ok in
    let found = known_fetched setup past legal n (omega arith) in
    let f = found.fetch in
    let op = op_of_fetched (Some f) in
    let c = exec op f.pc (or_zero (operand setup first_source past n)) (or_zero (operand setup second_source past n)) in
    let addr = (checked setup.image op c).addr in
    subst (λ z. HoldsItsCode setup.image (λ a. byte_after z.write a (byte_at setup past a)))
    (sym (retire_says setup past actor n x ok f found.fetched))
    (code_kept setup.image fixed op c (read op (byte_at setup past) addr) (holds_word (reserved past f.hart) addr)
    (byte_at setup past) holds)

pub histories_keep_code : HistoriesKeepCode
histories_keep_code setup fixed [] legal = λ pc. refl
histories_keep_code setup fixed (Fetch actor hart n pc word predicted ∷ past) legal =
    histories_keep_code setup fixed past legal.1
histories_keep_code setup fixed (Decode actor n ∷ past) legal = histories_keep_code setup fixed past legal.1
histories_keep_code setup fixed (Rename actor n register ∷ past) legal = histories_keep_code setup fixed past legal.1
histories_keep_code setup fixed (Issue actor n ∷ past) legal = histories_keep_code setup fixed past legal.1
histories_keep_code setup fixed (Complete actor n outcome ∷ past) legal = histories_keep_code setup fixed past legal.1
histories_keep_code setup fixed (Drop actor n ∷ past) legal = histories_keep_code setup fixed past legal.1
histories_keep_code setup fixed (Retire actor n x ∷ past) legal =
    code_retired setup fixed past legal.1 actor n x legal.0 (histories_keep_code setup fixed past legal.1)
histories_keep_code setup fixed (Refetch actor n ∷ past) legal = histories_keep_code setup fixed past legal.1

-- ---- A word is the same whenever it is read

-- Each that was fetched has the word that the image has at its pc.
pub fetched_word : (setup : Setup) → code_writable setup.image ≡ false → (past : List Event) → is_legal setup past
    → (s : ℕ) (f : Fetched) → fetching past s ≡ Some f → f.word ≡ code_word setup.image f.pc
fetched_word setup fixed [] legal s f at = absurd (grind arith)
fetched_word setup fixed (Fetch actor hart n pc word predicted ∷ past) legal s f at =
    elim (cases_Bool (n == s)) [
      | inl here ↦
          let mine : Fetched = record { hart = hart; pc = pc; word = word; predicted = predicted } in
          subst (λ z. z.word ≡ code_word setup.image z.pc) (some_one mine f (rw here at at))
          (same_number-is word (word_now setup.image (byte_at setup past) pc)
          (fetch_allowed setup past actor hart n pc word predicted legal.0).word_is
          ∙ histories_keep_code setup fixed past legal.1 pc)
      | inr other ↦ fetched_word setup fixed past legal.1 s f (rw other at at)
    ]
fetched_word setup fixed (Decode actor n ∷ past) legal s f at = fetched_word setup fixed past legal.1 s f at
fetched_word setup fixed (Rename actor n register ∷ past) legal s f at = fetched_word setup fixed past legal.1 s f at
fetched_word setup fixed (Issue actor n ∷ past) legal s f at = fetched_word setup fixed past legal.1 s f at
fetched_word setup fixed (Complete actor n outcome ∷ past) legal s f at = fetched_word setup fixed past legal.1 s f at
fetched_word setup fixed (Drop actor n ∷ past) legal s f at = fetched_word setup fixed past legal.1 s f at
fetched_word setup fixed (Retire actor n x ∷ past) legal s f at = fetched_word setup fixed past legal.1 s f at
fetched_word setup fixed (Refetch actor n ∷ past) legal s f at = fetched_word setup fixed past legal.1 s f at

-- So none is ever stale.
pub never_stale : (setup : Setup) → code_writable setup.image ≡ false → (past : List Event) → is_legal setup past
    → (s : ℕ) (f : Fetched) → fetching past s ≡ Some f → f.word ≡ word_now setup.image (byte_at setup past) f.pc
never_stale setup fixed past legal s f at =
    fetched_word setup fixed past legal s f at ∙ sym (histories_keep_code setup fixed past legal f.pc)
