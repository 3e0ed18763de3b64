-- The lines of records, counts, harts and output. (This project's own choice.)
use Rattle.std.specs.Prelude.{ℕ, Bool, false, ◌==◌, if◌then◌else◌, List, [], ◌∷◌, ◌++◌}
use Rattle.std.specs.Prelude.{codes, flat_map}
use Rattle.std.specs.{List.list_any, List.list_all, Fmt.decimal}
use Rattle.text_fields.specs.Spelling.{hex}
use Rattle.text_fields.specs.Each.{each_from}
use Rattle.events.specs.{declared.effect.Record.Record}
use Rattle.event_text.specs.{Line.record_text_of}
use Rattle.address_labels.specs.{Labels.Marks, Texts.labels_text}
use Rattle.address_labels.specs.declared.writing.Form.TheVariants.{Word}
use Rattle.smt_model.specs.{declared.config.Status.Status, declared.config.Status.TheVariants.Going}
use Rattle.smt_model.specs.{declared.config.Status.TheVariants.Ended}
use Rattle.smt_model.specs.{declared.config.Status.TheVariants.Stopped, Plain.is_going_status}

-- The hart has ended with 0.
abbrev pub has_ended_well : Status → Bool
has_ended_well Going = false
has_ended_well (Ended number) = number == 0
has_ended_well (Stopped cause) = false

-- The exit status of a simulation: 3 where some hart is going; else 0 where each has ended with 0;
-- else 1.
abbrev pub status_number : List Status → ℕ
status_number statuses =
    if list_any is_going_status statuses then 3
    else (if list_all has_ended_well statuses then 0 else 1)

-- A name, a number and a newline.
abbrev pub count_line : List ℕ → ℕ → List ℕ
count_line name count = name ++ 32 ∷ (decimal count ++ 10 ∷ [])

-- How a hart stands, with the number that it has ended with or the cause for which it has stopped.
abbrev pub status_text : Status → List ℕ
status_text Going = codes " going"
status_text (Ended number) = codes " ended " ++ decimal number
status_text (Stopped cause) = codes " stopped " ++ decimal cause

-- A line for each hart, in order, from the hart of this number on.
abbrev pub hart_line : ℕ → Status → List ℕ
hart_line hart status = codes "hart " ++ (decimal hart ++ (status_text status ++ 10 ∷ []))

abbrev pub hart_lines : ℕ → List Status → List ℕ
hart_lines hart statuses = each_from hart_line hart statuses

-- The bytes that were put out, two hexadecimal digits each; a dash where there are none.
abbrev pub bytes_text : List ℕ → List ℕ
bytes_text [] = codes "-"
bytes_text (byte ∷ others) = flat_map (hex 2) (byte ∷ others)

abbrev pub output_line : List ℕ → List ℕ
output_line output = codes "output " ++ (bytes_text output ++ 10 ∷ [])

-- A line for each record, where they are wanted: what is wanted beside its pc stands behind its own fields.
abbrev pub record_line : Marks → Record → List ℕ
record_line marks r = record_text_of r ++ (labels_text Word marks r.pc ++ 10 ∷ [])

abbrev pub records_text : Bool → Marks → List Record → List ℕ
records_text wanted marks records = if wanted then flat_map (record_line marks) records else []

-- How a simulation has ended: how each hart stands, and the bytes that were put out.
abbrev pub end_text : List Status → List ℕ → List ℕ
end_text statuses output = hart_lines 0 statuses ++ output_line output

-- The report of the plain machine, which has no events and no units.
abbrev pub plain_report_text : ℕ → List Status → List ℕ → List ℕ
plain_report_text retired statuses output =
    count_line (codes "retired") retired ++ end_text statuses output
