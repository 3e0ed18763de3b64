-- A table of good rows is good.
use Rattle.std.specs.Prelude.{◌≡◌, ◌≢◌, ℕ, ◌+◌, ◌-◌, ◌*◌, ◌/◌, ◌%◌, ◌<◌, Bool, true, false, ◌==◌, ◌&&◌, ◌||◌}
use Rattle.std.specs.Prelude.{nat_le, nat_lt, if◌then◌else◌, List, length, Option, Some, None, IfSome}
use Rattle.std.specs.{List.slice_get, List.slice_index_or}
use Rattle.std.specs.Prelude.{zero, suc, ◌⊎◌}
use Rattle.std.specs.Prelude.{All, Contains}
use Rattle.std.proofs.lemmas.{Option.slice_get_within, Option.slice_get_cases, List.get_or-replicate}
use Rattle.std.proofs.lemmas.List.Elements.{All-contains}
use Rattle.std.proofs.Common.{◌∙◌, refl, sym, ap, subst, inl, inr, arith}
use Rattle.std.proofs.{lemmas.Bool.cases_Bool, lemmas.Bool.Decides.nat_tests}
use Rattle.elf_image.specs.Image.{ProgramImage, byte_in, code_word, code_writable}
use Rattle.rv_instr.specs.{declared.op.Op.Op, Kinds.destination, Kinds.first_source, Kinds.second_source}
use Rattle.rv_instr.specs.Kinds.{kind_of}
use Rattle.rv_instr.specs.{declared.op.Op.TheVariants.NoWord, Decode.op_of_word, Registers.op_rs1, Registers.op_rs2}
use Rattle.rv_instr.specs.{Table.OpInRange, Kinds.or_zero}
use Rattle.rv_instr.proofs.DecodedLemmas.{op_rs1_below, op_rs2_below}
use Rattle.decoded_code.specs.Code.{IsCodeOf, IsFound, found_at}
use Rattle.decoded_code.proofs.Fetching.{found}
use Rattle.decoded_code.specs.declared.code.{Code.Code, Fetched.Fetched}
use Rattle.outcome_laws.specs.Tables.{op_at, reads_register, may_follow, may_go, goes_anywhere}
use Rattle.outcome_laws.specs.Tables.{IsLiveTable, IsKeptTable}
use Rattle.outcome_laws.specs.Tables.{is_conditional, replaces_reservation}
use Rattle.live_registers.specs.{Targets.allows, Onward.goes, declared.targets.Targets.Targets}
use Rattle.live_registers.specs.declared.table.{LiveTable.LiveTable, Row.Row}
use Rattle.live_registers.specs.Table.{all_alike, row_at, live_in, live_of, kept_in, kept_of}
use Rattle.live_registers.specs.Table.{IsAllAlike, IsTableOf, IsOfCode, IsGoodRow, IsKeptRow, AreGoodBelow}

-- ---- Where there is no word

first_and : (a b : Bool) → (a && b) ≡ true → a ≡ true
first_and true b both = refl
first_and false b both = both

second_and : (a b : Bool) → (a && b) ≡ true → b ≡ true
second_and true b both = both
second_and false b both = absurd (grind arith)

nothing_read : (r : ℕ) → r ≢ 0 → reads_register NoWord r ≡ true → ⊥
unfolding first_source second_source op_rs1 op_rs2
nothing_read r some reads = absurd (grind (arith, nat_tests))

nowhere : (targets : ℕ → ℕ → Bool) (pc to : ℕ) → goes targets NoWord pc to ≡ true → ⊥
unfolding may_follow goes_anywhere
nowhere targets pc to follows = absurd (grind arith)

no_conditional : is_conditional (kind_of NoWord) ≡ true → ⊥
unfolding kind_of
no_conditional is = absurd (grind arith)

no_op : (word : Option ℕ) → word ≡ None → op_of_word word ≡ NoWord
unfolding op_of_word
no_op word none = rw none refl

-- ---- Registers of an instruction

apart_or : (a b : Bool) → (a || b) ≡ true → a ≡ false → b ≡ true
apart_or true b either none = absurd (grind arith)
apart_or false b either none = either

below_of : (register : Option ℕ) (r : ℕ) → IfSome register (λ n. n < 32) → (r == or_zero register) ≡ true → r < 32
below_of None r below same = grind (arith, nat_tests)
below_of (Some n) r below same = grind (arith, nat_tests)

read_below : (op : Op) (r : ℕ) → OpInRange op → reads_register op r ≡ true → r < 32
unfolding first_source second_source
read_below op r in_range reads =
    elim (cases_Bool (r == or_zero (op_rs1 op))) [
      | inl first ↦ below_of (op_rs1 op) r (op_rs1_below op in_range) first
      | inr other ↦ below_of (op_rs2 op) r (op_rs2_below op in_range) (apart_or (r == or_zero (op_rs1 op)) (r == or_zero (op_rs2 op)) reads other)
    ]

-- ---- Where there is a word

if_some : {A : Type 0} → (test : Bool) (a : Option A) (x : A) → (if test then a else None) ≡ Some x
    → (test ≡ true) × (a ≡ Some x)
if_some true a x is = (refl, is)
if_some false a x is = absurd (grind arith)

one : {A : Type 0} → (a b : A) → Some a ≡ Some b → a ≡ b
one a b same = cc

pc_of : (start pc : ℕ) → (nat_le start pc && ((pc - start) % 4 == 0)) ≡ true → start + 4 * ((pc - start) / 4) ≡ pc
pc_of start pc test = grind (arith, nat_tests)

-- The row at the pc of a word of the code is there, and good.
record HasRow (targets : Targets) (table : LiveTable) (op : Op) (pc : ℕ) : Type 0 where
  row : Row
  at : row_at table pc ≡ Some row
  good : IsGoodRow targets table op pc row
  kept : IsKeptRow targets table op pc row

row_there : (start begin pc : ℕ) (rows : List Row) (row : Row) → begin ≡ start
    → (nat_le start pc && ((pc - start) % 4 == 0)) ≡ true → slice_get rows ((pc - start) / 4) ≡ Some row
    → (if nat_le begin pc && ((pc - begin) % 4 == 0) then slice_get rows ((pc - begin) / 4) else None) ≡ Some row
row_there start begin pc rows row same test got = rw (same, test) got

has_row : (code : Code) (targets : Targets) (table : LiveTable) (pc : ℕ) (f : Fetched) → IsOfCode code table
    → AreGoodBelow (length code.words.items) targets table code → found_at code.words.items code.start pc ≡ Some f
    → HasRow targets table f.op pc
has_row code targets table pc f of_code are found =
    let words = code.words.items in
    let index = (pc - code.start) / 4 in
    let split = if_some (nat_le code.start pc && ((pc - code.start) % 4 == 0)) (slice_get words index) f found in
    let good = are index (slice_get_within words index f split.1) in
    let word : good.0 ≡ f = one good.0 f (sym good.2 ∙ split.1) in
    let here : code.start + 4 * index ≡ pc = pc_of code.start pc split.0 in
    record {
      row = good.1;
      at = row_there code.start table.start pc table.rows.items good.1 of_code.start split.0 good.3;
      good = subst (λ p. IsGoodRow targets table f.op p good.1) here
          (subst (λ (w : Fetched). IsGoodRow targets table w.op (code.start + 4 * index) good.1) word good.4);
      kept = subst (λ p. IsKeptRow targets table f.op p good.1) here
          (subst (λ (w : Fetched). IsKeptRow targets table w.op (code.start + 4 * index) good.1) word good.5);
    }

or_true : (a b : Bool) → b ≡ true → (a || b) ≡ true
or_true true b so = refl
or_true false b so = so

live_by : (table : LiveTable) (pc r : ℕ) (row : Row) → row_at table pc ≡ Some row → r < 32
    → slice_index_or row.live r false ≡ true → live_of table pc r ≡ true
live_by table pc r row at below live =
    let within : nat_lt r 32 ≡ true = grind (arith, nat_tests) in
    or_true table.everywhere (live_in r (row_at table pc)) (ap (live_in r) at ∙ rw (within, live) refl)

kept_by : (table : LiveTable) (pc : ℕ) (row : Row) → row_at table pc ≡ Some row → row.kept ≡ true
    → kept_of table pc ≡ true
kept_by table pc row at kept = or_true table.everywhere (kept_in (row_at table pc)) (ap kept_in at ∙ kept)

-- Where a table goes by its rows, none above 31 is live.
live_below : (table : LiveTable) (pc r : ℕ) → table.everywhere ≡ false → live_of table pc r ≡ true → r < 32
live_below table pc r by_rows lives =
    let row : live_in r (row_at table pc) ≡ true = apart_or table.everywhere (live_in r (row_at table pc)) lives by_rows in
    let test = first_and (nat_lt r 32) _ row in grind (arith, nat_tests)

-- ---- The table

module _ (image : ProgramImage) (code : Code) (targets : Targets) (table : LiveTable)
    (fixed : code_writable image ≡ false) (is : IsCodeOf image (byte_in image) code) (of_code : IsOfCode code table)
    (are : AreGoodBelow (length code.words.items) targets table code) where
  -- At a pc the image has no word, or an instruction of which there is a good row.
  record Finds (pc : ℕ) : Type 0 where
    op : Op
    is_so : op_at image pc ≡ op
    known : (op ≡ NoWord) ⊎ (OpInRange op × HasRow targets table op pc)

  finds_in : (pc : ℕ) (found : Option Fetched) → found_at code.words.items code.start pc ≡ found
      → IsFound image (byte_in image) pc found → Finds pc
  finds_in pc None same none =
      record { op = NoWord; is_so = no_op (code_word image pc) none; known = inl refl }
  finds_in pc (Some f) same fetched = record {
    op = f.op;
    is_so = ap op_of_word fetched.word ∙ sym fetched.op;
    known = inr (fetched.in_range, has_row code targets table pc f of_code are same);
  }

  finds : (pc : ℕ) → Finds pc
  finds pc =
      finds_in pc (found_at code.words.items code.start pc) refl (found image (byte_in image) code is pc)

  positive : (r : ℕ) → r ≢ 0 → 0 < r
  positive zero some = absurd (some refl)
  positive (suc r) some = omega arith

  reads_at : (pc r : ℕ) → r ≢ 0 → (it : Finds pc) → reads_register it.op r ≡ true → live_of table pc r ≡ true
  reads_at pc r some it reads =
      elim it.known [
        | inl none ↦ absurd (nothing_read r some (subst (λ o. reads_register o r ≡ true) none reads))
        | inr both ↦
            let below = read_below it.op r both.0 reads in
            live_by table pc r both.1.row both.1.at below (both.1.good.reads r (positive r some) below reads)
      ]

  stays_at : (pc to r : ℕ) → r ≢ 0 → (it : Finds pc) → goes (allows targets) it.op pc to ≡ true
      → live_of table to r ≡ true → (r == destination it.op) ≡ false → live_of table pc r ≡ true
  stays_at pc to r some it follows lives other =
      elim it.known [
        | inl none ↦
            absurd (nowhere (allows targets) pc to (subst (λ o. goes (allows targets) o pc to ≡ true) none follows))
        | inr both ↦
            let below : r < 32 = live_below table to r of_code.by_rows lives in
            live_by table pc r both.1.row both.1.at below
            (both.1.good.stays to r (positive r some) below follows lives other)
      ]

  used_at : (pc : ℕ) → (it : Finds pc) → is_conditional (kind_of it.op) ≡ true → kept_of table pc ≡ true
  used_at pc it is =
      elim it.known [
        | inl none ↦ absurd (no_conditional (subst (λ o. is_conditional (kind_of o) ≡ true) none is))
        | inr both ↦ kept_by table pc both.1.row both.1.at (both.1.kept.used is)
      ]

  kept_at : (pc to : ℕ) → (it : Finds pc) → goes (allows targets) it.op pc to ≡ true → kept_of table to ≡ true
      → replaces_reservation (kind_of it.op) ≡ false → kept_of table pc ≡ true
  kept_at pc to it follows keeps replaces =
      elim it.known [
        | inl none ↦
            absurd (nowhere (allows targets) pc to (subst (λ o. goes (allows targets) o pc to ≡ true) none follows))
        | inr both ↦ kept_by table pc both.1.row both.1.at (both.1.kept.stays to follows keeps replaces)
      ]

  -- Where an instruction goes on that the image has.
  goes_by : (pc to : ℕ) → may_go (λ at. code_writable image) (allows targets) (op_at image pc) pc to ≡ true
      → goes (allows targets) (op_at image pc) pc to ≡ true
  goes_by pc to going =
      subst (λ (changes : Bool). may_go (λ at. changes) (allows targets) (op_at image pc) pc to ≡ true) fixed going

  good_live : IsLiveTable image (λ pc. code_writable image) (allows targets) (live_of table)
  good_live = record {
    reads = λ pc r some reads.
        let it = finds pc in
        reads_at pc r some it (subst (λ o. reads_register o r ≡ true) it.is_so reads);
    stays = λ pc to r some going lives other.
        let it = finds pc in
        stays_at pc to r some it
        (subst (λ o. goes (allows targets) o pc to ≡ true) it.is_so (goes_by pc to going)) lives
        (subst (λ o. (r == destination o) ≡ false) it.is_so other);
    all = λ pc r some written. absurd (grind (arith, fixed, written));
  }

  good_kept : IsKeptTable image (λ pc. code_writable image) (allows targets) (kept_of table)
  good_kept = record {
    used = λ pc is.
        let it = finds pc in used_at pc it (subst (λ o. is_conditional (kind_of o) ≡ true) it.is_so is);
    stays = λ pc to going keeps replaces.
        let it = finds pc in
        kept_at pc to it (subst (λ o. goes (allows targets) o pc to ≡ true) it.is_so (goes_by pc to going)) keeps
        (subst (λ o. replaces_reservation (kind_of o) ≡ false) it.is_so replaces);
    all = λ pc written. absurd (grind (arith, fixed, written));
  }

pub good : (image : ProgramImage) (code : Code) (targets : Targets) (table : LiveTable)
    → code_writable image ≡ false → IsCodeOf image (byte_in image) code → IsOfCode code table
    → AreGoodBelow (length code.words.items) targets table code → IsTableOf image targets table
good image code targets table fixed is of_code are = record {
  live = good_live image code targets table fixed is of_code are;
  kept = good_kept image code targets table fixed is of_code are;
}

-- Where every register is live, none is missing.
pub everywhere_good : (image : ProgramImage) (changes : ℕ → Bool) (targets live : ℕ → ℕ → Bool)
    → ((pc r : ℕ) → live pc r ≡ true) → IsLiveTable image changes targets live
everywhere_good image changes targets live all = record {
  reads = λ pc r some reads. all pc r;
  stays = λ pc to r some follows lives other. all pc r;
  all = λ pc r some changed. all pc r;
}

-- ---- Every register live everywhere

kept_row : (targets : Targets) (table : LiveTable) (op : Op) (pc : ℕ) (row : Row) → row.kept ≡ true
    → IsKeptRow targets table op pc row
kept_row targets table op pc row kept = record { used = λ is. kept; stays = λ to follows keeps replaces. kept }

full_row : (targets : Targets) (table : LiveTable) (op : Op) (pc : ℕ) (row : Row) → row.live ≡ all_alike true
    → IsGoodRow targets table op pc row
unfolding all_alike
full_row targets table op pc row full =
    let live : (r : ℕ) → r < 32 → slice_index_or row.live r false ≡ true =
    (λ r below. ap (λ l. slice_index_or l r false) full ∙ get_or-replicate 32 r true false below) in
    record {
      reads = λ r some below reads. live r below;
      stays = λ to r some below follows lives other. live r below;
    }

-- An element at a place inside a list.
record IsElement {A : Type 0} (xs : List A) (i : ℕ) : Type 0 where
  element : A
  at : slice_get xs i ≡ Some element
  holds : Contains xs element

element : {A : Type 0} → (xs : List A) (i : ℕ) → i < length xs → IsElement xs i
element xs i below =
    elim (slice_get_cases xs i).1 [
      | inl it ↦ record { element = it.0; at = it.2; holds = (i, below, it.3) }
      | inr past ↦ absurd (omega arith)
    ]

full_below : (code : Code) (targets : Targets) (table : LiveTable) → IsOfCode code table
    → All (IsAllAlike true) table.rows.items
    → AreGoodBelow (length code.words.items) targets table code
full_below code targets table of_code full index below =
    let word = element code.words.items index below in
    let rows = of_code.rows in
    let row = element table.rows.items index (omega arith) in
    let alike : IsAllAlike true row.element =
    All-contains (IsAllAlike true) table.rows.items row.element full row.holds in (
      word.element,
      row.element,
      word.at,
      row.at,
      full_row targets table word.element.op (code.start + 4 * index) row.element alike.live_are,
      kept_row targets table word.element.op (code.start + 4 * index) row.element alike.kept_is,
    )

pub full_good : (image : ProgramImage) (code : Code) (targets : Targets) (table : LiveTable)
    → code_writable image ≡ false → IsCodeOf image (byte_in image) code → IsOfCode code table
    → All (IsAllAlike true) table.rows.items → IsTableOf image targets table
full_good image code targets table fixed is of_code full =
    good image code targets table fixed is of_code (full_below code targets table of_code full)
