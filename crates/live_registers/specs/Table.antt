-- A table of live registers, and of reservations that may be used yet, a row for each word of a code. [This
-- project's own choice]
use Rattle.std.specs.Prelude.{◌≡◌, ℕ, ◌+◌, ◌-◌, ◌*◌, ◌/◌, ◌%◌, ◌<◌, Bool, true, false, ◌==◌, ◌&&◌, ◌||◌}
use Rattle.std.specs.Prelude.{nat_le, nat_lt, if◌then◌else◌}
use Rattle.std.specs.Prelude.{List, length, replicate, Option, Some, None}
use Rattle.std.specs.{List.slice_get, List.slice_index_or, Option.option_map_or}
use Rattle.rv_instr.specs.{declared.op.Op.Op, Kinds.destination, Kinds.kind_of}
use Rattle.decoded_code.specs.declared.code.{Code.Code, Fetched.Fetched}
use Rattle.elf_image.specs.Image.{ProgramImage, code_writable}
use Rattle.outcome_laws.specs.Tables.{reads_register, IsLiveTable, IsKeptTable}
use Rattle.outcome_laws.specs.Tables.{is_conditional, replaces_reservation}
use Rattle.live_registers.specs.{Targets.allows, Onward.goes, declared.targets.Targets.Targets}
use Rattle.live_registers.specs.declared.table.LiveTable.{LiveTable}
use Rattle.live_registers.specs.declared.table.Row.{Row}

-- A row in which all registers are live, or none is.
unfoldable pub all_alike : Bool → List Bool
all_alike live = replicate 32 live

-- So it is, and the reservation is kept, or it isn't.
pub record IsAllAlike (live : Bool) (row : Row) : Type 0 where
  pub live_are : row.live ≡ all_alike live
  pub kept_is : row.kept ≡ live

-- The row of the word at a pc, where the code has one.
abbrev pub row_at : LiveTable → ℕ → Option Row
row_at table pc =
    if nat_le table.start pc && ((pc - table.start) % 4 == 0)
    then slice_get table.rows.items ((pc - table.start) / 4) else None

-- Register r is live at a pc: the row there says so; where there is no word none is. Or every register
-- is live everywhere.
abbrev pub live_in : ℕ → Option Row → Bool
live_in r row = nat_lt r 32 && option_map_or (λ (it : Row). slice_index_or it.live r false) row false

abbrev pub live_of : LiveTable → ℕ → ℕ → Bool
live_of table pc r = table.everywhere || live_in r (row_at table pc)

-- A reservation is kept at a pc: the row there says so; where there is no word it isn't. Or each is.
abbrev pub kept_in : Option Row → Bool
kept_in row = option_map_or (λ (it : Row). it.kept) row false

abbrev pub kept_of : LiveTable → ℕ → Bool
kept_of table pc = table.everywhere || kept_in (row_at table pc)

-- The table is good for an image and a table of targets: JALR goes on where that says, and where the code may be
-- written any word of it may change.
pub record IsTableOf (image : ProgramImage) (targets : Targets) (table : LiveTable) : Type 0 where
  pub live : IsLiveTable image (λ pc. code_writable image) (allows targets) (live_of table)
  pub kept : IsKeptTable image (λ pc. code_writable image) (allows targets) (kept_of table)

-- The table goes by its rows, and has one for each word of the code.
pub record IsOfCode (code : Code) (table : LiveTable) : Type 0 where
  pub by_rows : table.everywhere ≡ false
  pub start : table.start ≡ code.start
  pub rows : length table.rows.items ≡ length code.words.items

-- A row for an instruction at a pc is good: what it reads is live, and so is what is live where it may go on,
-- but for the register that it writes.
pub record IsGoodRow (targets : Targets) (table : LiveTable) (op : Op) (pc : ℕ) (row : Row) : Type 0 where
  pub reads : (r : ℕ) → 0 < r → r < 32 → reads_register op r ≡ true
      → slice_index_or row.live r false ≡ true
  pub stays : (to r : ℕ) → 0 < r → r < 32 → goes (allows targets) op pc to ≡ true → live_of table to r ≡ true
      → (r == destination op) ≡ false → slice_index_or row.live r false ≡ true

-- So it is of the reservation: SC uses it, and LR and SC leave nothing of an earlier one.
pub record IsKeptRow (targets : Targets) (table : LiveTable) (op : Op) (pc : ℕ) (row : Row) : Type 0 where
  pub used : is_conditional (kind_of op) ≡ true → row.kept ≡ true
  pub stays : (to : ℕ) → goes (allows targets) op pc to ≡ true → kept_of table to ≡ true
      → replaces_reservation (kind_of op) ≡ false → row.kept ≡ true

-- The row of a word of the code is good, at the word's pc.
abbrev pub IsGoodAt : Targets → LiveTable → Code → ℕ → Type 0
IsGoodAt targets table code index = (word : Fetched) × (row : Row)
    × (slice_get code.words.items index ≡ Some word) × (slice_get table.rows.items index ≡ Some row)
    × IsGoodRow targets table word.op (code.start + 4 * index) row
    × IsKeptRow targets table word.op (code.start + 4 * index) row

abbrev pub AreGoodBelow : ℕ → Targets → LiveTable → Code → Type 0
AreGoodBelow count targets table code = (index : ℕ) → index < count → IsGoodAt targets table code index
