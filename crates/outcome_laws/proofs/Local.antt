-- What a hart finds behind another's step; what a local step leaves alone; and whether a step fits is its own
-- hart's matter.
use Rattle.std.specs.Prelude.{◌≡◌, ◌⊎◌, ℕ, ◌<◌, Bool, true, false, not, ◌==◌, ◌&&◌, ◌||◌}
use Rattle.std.specs.Prelude.{nat_lt, ◌++◌, Option, None, is_some}
use Rattle.std.specs.List.{list_all}
use Rattle.std.proofs.Common.{◌∙◌, refl, sym, ap, ap₂, subst, inl, inr, arith}
use Rattle.std.proofs.{lemmas.Bool.cases_Bool, lemmas.Bool.Decides.nat_tests}
use Rattle.elf_image.specs.Image.{ProgramImage, word_now}
use Rattle.rv_instr.specs.declared.op.Op.{Op}
use Rattle.events.specs.{declared.effect.Written.Written}
use Rattle.smt_model.specs.{Setup.Setup, Exec.Computed, Nexts.is_last, Words.op_of_word}
use Rattle.smt_model.specs.Kinds.{Kind, Computing, Loading, Storing, Reserving, Conditional, Atomic, kind_of}
use Rattle.smt_model.specs.Kinds.{touches_memory, writes_register, first_source, second_source}
use Rattle.smt_model.specs.{Effects.effect_of, Effects.effect_by, Bytes.read, Faults.computed_on}
use Rattle.smt_model.specs.Reservations.{word_of_address, holds_word}
use Rattle.smt_model.specs.Plain.{Plain, is_going_status, op_at_pc, computes, effect_at, read_register}
use Rattle.outcome_laws.specs.Paths.{can_step, stepped}
use Rattle.outcome_laws.specs.Tables.{Tables, IsTables, IsAsCoded, may_change, is_conditional}
use Rattle.outcome_laws.specs.Local.{Use, the_output, reading, accesses, fetches, goes_on_within, fits}
use Rattle.outcome_laws.specs.Local.{apart_from, is_apart, lacks_reservation, is_local, FitsOnItsOwn}
use Rattle.outcome_laws.proofs.Uses.{is_written, written_is_used, output_is_used, accessed_is_used, same_fetch}
use Rattle.outcome_laws.proofs.Facts.{first_of_both, second_of_both, one_of_two, not_true, is_false, different}
use Rattle.outcome_laws.proofs.Facts.{below_each, all_weaker}
use Rattle.outcome_laws.proofs.Known.{known, local_fits, spared_word, coded_next}

-- ---- What a hart finds behind another's step

-- The word at the pc of a hart isn't written to by another's step, if it may change at all.
abbrev pub SparesFetch : Setup → Tables → ℕ → ℕ → Plain → Type 0
SparesFetch setup tables h g s = may_change setup.image tables (s.pcs g) ≡ true
    → is_written (effect_at setup s h).write (word_of_address (s.pcs g)) ≡ false

pub can_still : (setup : Setup) (h g : ℕ) (s : Plain) → (g == h) ≡ false
    → can_step setup g (stepped setup h s) ≡ can_step setup g s
can_still setup h g s apart = rw apart refl

pub pc_still : (setup : Setup) (h g : ℕ) (s : Plain) → (g == h) ≡ false → (stepped setup h s).pcs g ≡ s.pcs g
pc_still setup h g s apart = rw apart refl

pub finds_op : (setup : Setup) (tables : Tables) (h g : ℕ) (s : Plain) → IsAsCoded setup tables s
    → IsAsCoded setup tables (stepped setup h s) → (g == h) ≡ false → SparesFetch setup tables h g s
    → op_at_pc setup (stepped setup h s) g ≡ op_at_pc setup s g
finds_op setup tables h g s coded after apart spares =
    let sh = stepped setup h s in
    let same = pc_still setup h g s apart in
    ap (λ pc. op_of_word (word_now setup.image sh.bytes pc)) same
    ∙ elim (cases_Bool (may_change setup.image tables (s.pcs g))) [
      | inl changes ↦
          ap op_of_word (same_fetch setup.image sh.bytes s.bytes (s.pcs g)
          (spared_word setup h s (word_of_address (s.pcs g)) (spares changes)))
      | inr stays ↦ ap op_of_word (after (s.pcs g) stays ∙ sym (coded (s.pcs g) stays))
    ]

pub finds : (setup : Setup) (tables : Tables) (h g : ℕ) (s : Plain) → IsAsCoded setup tables s
    → IsAsCoded setup tables (stepped setup h s) → (g == h) ≡ false → SparesFetch setup tables h g s
    → computes setup (stepped setup h s) g ≡ computes setup s g
finds setup tables h g s coded after apart spares =
    let sh = stepped setup h s in
    ap (λ o. computed_on setup o (sh.pcs g) (read_register sh g (first_source o))
    (read_register sh g (second_source o)))
    (finds_op setup tables h g s coded after apart spares)
    ∙ rw apart refl

-- Whether a step fits, by what is found at a pc.
abbrev fits_by : ProgramImage → Tables → ℕ → ℕ → Op → Computed → Bool
fits_by image tables h pc op c =
    list_all (λ (u : Use). tables.ahead h pc u.what u.writes) (fetches image tables pc ++ accesses op c)
    && goes_on_within image tables op pc c.next

pub fits_still : (setup : Setup) (tables : Tables) (h g : ℕ) (s : Plain) → IsAsCoded setup tables s
    → IsAsCoded setup tables (stepped setup h s) → (g == h) ≡ false → SparesFetch setup tables h g s
    → fits setup tables g (stepped setup h s) ≡ fits setup tables g s
fits_still setup tables h g s coded after apart spares =
    let sh = stepped setup h s in
    ap (λ pc. fits_by setup.image tables g pc (op_at_pc setup sh g) (computes setup sh g)) (pc_still setup h g s apart)
    ∙ ap₂ (fits_by setup.image tables g (s.pcs g)) (finds_op setup tables h g s coded after apart spares)
    (finds setup tables h g s coded after apart spares)

-- ---- What is known of a local step

-- SC without a reservation writes nothing, and says the same whatever memory holds.
record IsFailing (kind : Kind) (op : Op) (writes : Bool) (c : Computed) : Type 0 where
  write : (now : ℕ) → (effect_by kind op writes c now false).write ≡ None
  out : (now : ℕ) → (effect_by kind op writes c now false).out ≡ None
  same : (now now2 : ℕ) → effect_by kind op writes c now false ≡ effect_by kind op writes c now2 false

kind_fails : (kind : Kind) (op : Op) (writes : Bool) (c : Computed) → is_conditional kind ≡ true
    → IsFailing kind op writes c
kind_fails Computing op writes c is = absurd (grind arith)
kind_fails Loading op writes c is = absurd (grind arith)
kind_fails Storing op writes c is = absurd (grind arith)
kind_fails Reserving op writes c is = absurd (grind arith)
kind_fails Conditional op writes c is = record {
  write = λ now. refl;
  out = λ now. refl;
  same = λ now now2. refl;
}
kind_fails Atomic op writes c is = absurd (grind arith)

pub fails_write : (op : Op) (c : Computed) (now : ℕ) (held : Bool) → is_conditional (kind_of op) ≡ true → held ≡ false
    → (effect_of op c now held).write ≡ None
fails_write op c now held is lacks =
    elim (cases_Bool (is_last c.next)) [
      | inl last ↦ rw last refl
      | inr going ↦ rw (going, lacks) ((kind_fails (kind_of op) op (writes_register op) c is).write now)
    ]

fails_out : (op : Op) (c : Computed) (now : ℕ) (held : Bool) → is_conditional (kind_of op) ≡ true → held ≡ false
    → (effect_of op c now held).out ≡ None
fails_out op c now held is lacks =
    elim (cases_Bool (is_last c.next)) [
      | inl last ↦ rw last refl
      | inr going ↦ rw (going, lacks) ((kind_fails (kind_of op) op (writes_register op) c is).out now)
    ]

pub fails_same : (op : Op) (c : Computed) (now now2 : ℕ) (held held2 : Bool) → is_conditional (kind_of op) ≡ true
    → held ≡ false → held2 ≡ false → effect_of op c now held ≡ effect_of op c now2 held2
fails_same op c now now2 held held2 is lacks lacks2 =
    elim (cases_Bool (is_last c.next)) [
      | inl last ↦ rw last refl
      | inr going ↦ rw (going, lacks, lacks2) ((kind_fails (kind_of op) op (writes_register op) c is).same now now2)
    ]

-- What a local step of g leaves alone that hart h may touch or write yet.
pub record IsClear (setup : Setup) (tables : Tables) (g h : ℕ) (s : Plain) : Type 0 where
  pub writes : (word : ℕ) → tables.ahead h (s.pcs h) word false ≡ true
      → is_written (effect_at setup s g).write word ≡ false
  pub puts : tables.ahead h (s.pcs h) the_output false ≡ true → is_some (effect_at setup s g).out ≡ false
  pub touches : is_last (computes setup s g).next ≡ false → touches_memory (kind_of (op_at_pc setup s g)) ≡ true
      → (tables.ahead h (s.pcs h) (word_of_address (computes setup s g).addr) true ≡ false)
      ⊎ (lacks_reservation setup g s ≡ true)
  pub fetch : may_change setup.image tables (s.pcs g) ≡ true
      → tables.ahead h (s.pcs h) (word_of_address (s.pcs g)) true ≡ false

-- Hart h may not do to what is used here what would be seen.
abbrev spares : Tables → ℕ → Plain → Use → Bool
spares tables h s u = not (tables.ahead h (s.pcs h) u.what (not u.writes))

below_of : (setup : Setup) (h : ℕ) (s : Plain) → can_step setup h s ≡ true → h < setup.harts
below_of setup h s can = grind (arith, nat_tests, first_of_both (nat_lt h setup.harts) _ can)

going_of : (setup : Setup) (h : ℕ) (s : Plain) → can_step setup h s ≡ true → is_going_status (s.statuses h) ≡ true
going_of setup h s can = second_of_both (nat_lt h setup.harts) _ can

third_of : (a b c : Bool) → (a || not b || c) ≡ true → a ≡ false → b ≡ true → c ≡ true
third_of a b c any first second = let still : (false || false || c) ≡ true = rw (first, second) at any in still

apart_spares : (setup : Setup) (tables : Tables) (g h : ℕ) (s : Plain) → (h == g) ≡ false → can_step setup h s ≡ true
    → (u : Use) → is_apart setup tables g s u ≡ true → spares tables h s u ≡ true
apart_spares setup tables g h s apart can u is =
    let each = second_of_both (not (u.writes && tables.seen u.what)) _ is in
    third_of (h == g) (is_going_status (s.statuses h)) (spares tables h s u)
    (below_each (λ k. apart_from tables g s k u) setup.harts each h (below_of setup h s can)) apart
    (going_of setup h s can)

pub unwritten : (write : Option Written) (word : ℕ) → write ≡ None → is_written write word ≡ false
unwritten write word none = rw none refl

unput : (out : Option ℕ) → out ≡ None → is_some out ≡ false
unput out none = rw none refl

spared_use : (tables : Tables) (image : ProgramImage) → IsTables image tables → (h pc word : ℕ) (writes : Bool)
    → not (tables.ahead h pc word (not writes)) ≡ true → tables.ahead h pc word true ≡ false
spared_use tables image good h pc word true none =
    is_false (tables.ahead h pc word true) (tables.ahead h pc word false) (good.ahead.touches h pc word)
    (not_true (tables.ahead h pc word false) none)
spared_use tables image good h pc word false none = not_true (tables.ahead h pc word true) none

abbrev accesses_apart : Setup → Tables → ℕ → Plain → Bool
accesses_apart setup tables g s =
    list_all (is_apart setup tables g s) (accesses (op_at_pc setup s g) (computes setup s g))

module _ (setup : Setup) (tables : Tables) (good : IsTables setup.image tables) (g h : ℕ) (s : Plain)
    (apart : (h == g) ≡ false) (can : can_step setup h s ≡ true) where
  clear_fetch : list_all (is_apart setup tables g s) (fetches setup.image tables (s.pcs g)) ≡ true
      → may_change setup.image tables (s.pcs g) ≡ true
      → tables.ahead h (s.pcs h) (word_of_address (s.pcs g)) true ≡ false
  clear_fetch all changes =
      let each : list_all (spares tables h s) (fetches setup.image tables (s.pcs g)) ≡ true =
      all_weaker (is_apart setup tables g s) (spares tables h s) (fetches setup.image tables (s.pcs g))
      (apart_spares setup tables g h s apart can) all in
      let u = reading (word_of_address (s.pcs g)) in
      not_true (tables.ahead h (s.pcs h) (word_of_address (s.pcs g)) true)
      (first_of_both (spares tables h s u) true (rw changes at each))

  clear_apart : list_all (is_apart setup tables g s) (fetches setup.image tables (s.pcs g)) ≡ true
      → accesses_apart setup tables g s ≡ true → IsClear setup tables g h s
  clear_apart fetched accessed =
      let op = op_at_pc setup s g in
      let c = computes setup s g in
      let now = read op s.bytes c.addr in
      let held = holds_word (s.reserved g) c.addr in
      let p = spares tables h s in
      let each : list_all p (accesses op c) ≡ true =
      all_weaker (is_apart setup tables g s) p (accesses op c) (apart_spares setup tables g h s apart can) accessed in
      record {
        writes = λ word may.
            is_false (is_written (effect_at setup s g).write word) (not (tables.ahead h (s.pcs h) word false))
            (written_is_used op c now held p word each) (rw may refl);
        puts = λ may.
            is_false (is_some (effect_at setup s g).out) (not (tables.ahead h (s.pcs h) the_output false))
            (output_is_used op c now held p each) (rw may refl);
        touches = λ going touches.
            let use_of = accessed_is_used op c p going touches each in
            inl (spared_use tables setup.image good h (s.pcs h) (word_of_address c.addr) use_of.0 use_of.1);
        fetch = clear_fetch fetched;
      }

  clear_fails : list_all (is_apart setup tables g s) (fetches setup.image tables (s.pcs g)) ≡ true
      → lacks_reservation setup g s ≡ true → IsClear setup tables g h s
  clear_fails fetched lacks =
      let op = op_at_pc setup s g in
      let c = computes setup s g in
      let now = read op s.bytes c.addr in
      let held = holds_word (s.reserved g) c.addr in
      let is = first_of_both (is_conditional (kind_of op)) (not held) lacks in
      let none = not_true held (second_of_both (is_conditional (kind_of op)) (not held) lacks) in
      record {
        writes = λ word may. unwritten (effect_at setup s g).write word (fails_write op c now held is none);
        puts = λ may. unput (effect_at setup s g).out (fails_out op c now held is none);
        touches = λ going touches. inr lacks;
        fetch = clear_fetch fetched;
      }

  pub clear : is_local setup tables g s ≡ true → IsClear setup tables g h s
  clear local =
      let fetched = list_all (is_apart setup tables g s) (fetches setup.image tables (s.pcs g)) in
      let accessed = accesses_apart setup tables g s in
      let rest = second_of_both (fits setup tables g s) _ local in
      let first = first_of_both fetched (accessed || lacks_reservation setup g s) rest in
      elim (one_of_two accessed (lacks_reservation setup g s)
      (second_of_both fetched (accessed || lacks_reservation setup g s) rest)) [
        | inl all ↦ clear_apart first all
        | inr lacks ↦ clear_fails first lacks
      ]

-- ---- Whether a step fits is its own hart's matter

pub own : (setup : Setup) (tables : Tables) → IsTables setup.image tables → (g h : ℕ) (s : Plain) → (h == g) ≡ false
    → IsAsCoded setup tables s → can_step setup h s ≡ true → is_local setup tables g s ≡ true
    → fits setup tables h (stepped setup g s) ≡ true → fits setup tables h s ≡ true
own setup tables good g h s apart coded can local after =
    let sg = stepped setup g s in
    let clears = clear setup tables good g h s apart can local in
    let there = known setup tables good h sg after in
    let same = pc_still setup g h s apart in
    let spared : SparesFetch setup tables g h s = λ changes.
    clears.writes (word_of_address (s.pcs h))
    (subst (λ pc. may_change setup.image tables pc ≡ true
    → tables.ahead h pc (word_of_address pc) false ≡ true) same there.fetch changes) in
    let coded_g = coded_next setup tables good g s coded (local_fits setup tables g s local) in
    sym (fits_still setup tables g h s coded coded_g apart spared) ∙ after

pub fits_on_its_own : FitsOnItsOwn
fits_on_its_own setup tables good g h s other coded can_g can_h local after =
    own setup tables good g h s (different g h other) coded can_h local after
