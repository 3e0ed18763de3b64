-- What a core holds, in lines: its tables. (This project's own choice.)
use Rattle.std.specs.Prelude.{◌≡◌, ℕ, ◌+◌, ◌==◌, nat_lt, ◌||◌, not, Bool, if◌then◌else◌}
use Rattle.std.specs.Prelude.{List, [], ◌∷◌, ◌++◌, codes, count_by, flat_map, length}
use Rattle.std.specs.Prelude.{Option, Some, None, is_some, slice_get, slice_index_or}
use Rattle.std.specs.Fmt.{decimal}
use Rattle.numbers.specs.Sizes.{most_registers}
use Rattle.free_list.specs.Flags.{holds}
use Rattle.issue_queue.specs.declared.entry.Entry.{Entry}
use Rattle.rename_map.specs.Maps.{Maps, lookup, committed_of}
use Rattle.retire_squash.specs.{declared.active.Active.Active, declared.active.Stage.Stage}
use Rattle.retire_squash.specs.declared.active.Stage.TheVariants.{Renamed, Issued, Completed}
use Rattle.shared_memory.specs.Contents.{reserved_of}
use Rattle.smt_model.specs.{Basics.below, Picture.picture, Setup.registers_of}
use Rattle.core_parts.specs.{Agree.PartsAgree, declared.parts.Parts.Parts, declared.hart.HartState.HartState}
use Rattle.core_parts.specs.{declared.slot.Slot.Slot, declared.slot.OpenJob.OpenJob, Listed.listed}
use Rattle.core_state.specs.View.{CoreView}
use Rattle.text_fields.specs.{Each.each_from, Spelling.hex, Spelling.optional}
use Rattle.report_lines.specs.Lines.{status_text}

-- A text with a number behind it, or with a word, as eight hexadecimal digits.
abbrev pub number_text : List ℕ → ℕ → List ℕ
number_text before number = before ++ decimal number

abbrev pub word_text : List ℕ → ℕ → List ℕ
word_text before word = before ++ hex 8 word

-- The same of a word that may not be there, at the end of a line.
abbrev pub value_text : List ℕ → Option ℕ → List ℕ
value_text before value = before ++ (optional (hex 8) value ++ codes "\n")

-- The end of a line of a list, which may be empty.
abbrev pub end_text : Bool → List ℕ
end_text is_empty = if is_empty then codes " -\n" else codes "\n"

-- How a hart stands, where it is fetched next, its ICOUNT, and the word that it has reserved.
abbrev pub place_text : HartState → List ℕ
place_text state = word_text (codes " pc ") state.fetch_pc ++ number_text (codes " icount ") state.icount

abbrev pub standing_line : ℕ → HartState → Option ℕ → List ℕ
standing_line hart state reserved = number_text (codes "hart ") hart ++ (status_text state.status
    ++ (place_text state ++ value_text (codes " reserved ") reserved))

-- The instructions of a latch.
abbrev pub slot_text : Slot → List ℕ
slot_text slot = number_text (codes " ") slot.seq

abbrev pub latch_line : List ℕ → List Slot → List ℕ
latch_line name latch = name ++ (flat_map slot_text latch ++ end_text (length latch == 0))

-- Those in flight: number, stage and register.
abbrev pub stage_text : Stage → List ℕ
stage_text Renamed = codes ":r:"
stage_text Issued = codes ":i:"
stage_text (Completed outcome) = codes ":c:"

abbrev pub phys_text : Option ℕ → List ℕ
phys_text phys = optional decimal phys

abbrev pub active_text : Active → List ℕ
active_text active = number_text (codes " ") active.seq ++ (stage_text active.stage ++ phys_text active.phys)

abbrev pub flight_line : List Active → List ℕ
flight_line actives = codes "flight" ++ (flat_map active_text actives ++ end_text (length actives == 0))

-- The physical registers of x1 to x31, and those of the retired instructions.
abbrev pub mapped_at : Maps → ℕ → List ℕ
mapped_at maps index = number_text (codes " ") (lookup maps (index + 1))

unfoldable pub mapped_text : Maps → List ℕ
mapped_text maps = flat_map (mapped_at maps) (below 31)

abbrev pub map_line : Maps → List ℕ
map_line maps = codes "map" ++ (mapped_text maps ++ codes "\n")

abbrev pub committed_at : Maps → ℕ → List ℕ
committed_at maps index = number_text (codes " ") (committed_of maps (index + 1))

unfoldable pub committed_text : Maps → List ℕ
committed_text maps = flat_map (committed_at maps) (below 31)

abbrev pub committed_line : Maps → List ℕ
committed_line maps = codes "committed" ++ (committed_text maps ++ codes "\n")

-- The six lines of a hart; those of all.
abbrev pub latches_text : HartState → List ℕ
latches_text state = latch_line (codes "fetched") state.decode_latch.items
    ++ latch_line (codes "decoded") state.rename_latch.items

abbrev pub maps_text : Maps → List ℕ
maps_text maps = map_line maps ++ committed_line maps

unfoldable pub hart_text : ℕ → HartState → Option ℕ → List ℕ
hart_text hart state reserved = standing_line hart state reserved
    ++ (latches_text state ++ (flight_line state.active ++ maps_text state.maps))

abbrev pub hart_text_of : Option HartState → ℕ → Option ℕ → List ℕ
hart_text_of None hart reserved = []
hart_text_of (Some state) hart reserved = hart_text hart state reserved

abbrev pub hart_at : Parts → ℕ → List ℕ
hart_at parts hart = hart_text_of (slice_get parts.harts.items hart) hart (reserved_of parts.memory hart)

abbrev pub harts_text : ℕ → Parts → List ℕ
harts_text harts parts = flat_map (hart_at parts) (below harts)

-- The instructions in the issue queue, rising, each with its hart.
abbrev pub entry_text : Entry → List ℕ
entry_text entry = number_text (codes " ") entry.seq ++ number_text (codes ".") entry.hart

abbrev pub queue_line : List Entry → List ℕ
queue_line entries = codes "queue" ++ (flat_map entry_text entries ++ end_text (length entries == 0))

-- The actors that have a job, rising, each with its instruction.
abbrev pub job_text : ℕ → Option OpenJob → List ℕ
job_text actor None = []
job_text actor (Some job) = number_text (codes " ") actor ++ number_text (codes ":") job.seq

abbrev pub jobs_line : List (Option OpenJob) → List ℕ
jobs_line jobs = codes "jobs" ++ (each_from job_text 0 jobs ++ end_text (count_by is_some jobs == 0))

-- The free registers, rising; a line for each of so many that isn't free, with its value.
abbrev pub free_line : List Bool → List ℕ
free_line free = let registers = listed (λ x. holds free x) in
    codes "free" ++ (flat_map (number_text (codes " ")) registers ++ end_text (length registers == 0))

abbrev pub register_line : ℕ → List Bool → List (Option ℕ) → ℕ → List ℕ
register_line registers free values register = if not (nat_lt register registers) || holds free register then []
    else number_text (codes "reg ") register ++ value_text (codes " ") (slice_index_or values register None)

unfoldable pub registers_text : ℕ → List Bool → List (Option ℕ) → List ℕ
registers_text registers free values = flat_map (register_line registers free values) (below most_registers)

-- The tables of so many harts and registers.
unfoldable pub tables_text : ℕ → ℕ → Parts → List ℕ
tables_text harts registers parts = harts_text harts parts ++ (queue_line parts.queue.entries
    ++ (jobs_line parts.jobs ++ (free_line parts.free ++ registers_text registers parts.free parts.values)))

-- The tables of a core: those of the parts that agree with its history.
pub record AreTablesOf (core : CoreView) (text : List ℕ) : Type 0 where
  pub parts : Parts
  pub agree : PartsAgree (picture core.setup core.past) parts
  pub told : text ≡ tables_text core.setup.harts (registers_of core.setup) parts
