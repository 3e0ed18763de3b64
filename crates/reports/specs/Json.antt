-- The report as one JSON object: its numbers, and those of its history where they are wanted. (This
-- project's own choice; JSON: RFC 8259.)
use Rattle.std.specs.Prelude.{ℕ, ◌==◌, if◌then◌else◌, List, [], ◌++◌, Option, Some, None, codes, length}
use Rattle.std.specs.Prelude.{flat_map}
use Rattle.std.specs.{Fmt.decimal}
use Rattle.text_fields.specs.Spelling.{hex}
use Rattle.events.specs.{declared.effect.Record.Record}
use Rattle.smt_model.specs.{declared.config.Status.Status, declared.config.Status.TheVariants.Going}
use Rattle.smt_model.specs.{declared.config.Status.TheVariants.Ended}
use Rattle.smt_model.specs.{declared.config.Status.TheVariants.Stopped}
use Rattle.history_counts.specs.{declared.counts.Counts.Counts}
use Rattle.reports.specs.declared.form.Form.TheVariants.{Members}
use Rattle.text_fields.specs.Each.{each_from}
use Rattle.reports.specs.{Form.member_text, Counts.counts_text}

-- How many events and retired instructions there are, and how many jobs are with units.
abbrev pub sizes_text : ℕ → ℕ → ℕ → List ℕ
sizes_text events retired lent =
    member_text (codes "{") (codes "events") events
    ++ (member_text (codes ",") (codes "retired") retired
    ++ member_text (codes ",") (codes "lent") lent)

-- How each hart stands.
abbrev pub lead_of : ℕ → List ℕ
lead_of hart = if hart == 0 then [] else codes ","

abbrev pub status_members : Status → List ℕ
status_members Going = codes ",\"status\":\"going\""
status_members (Ended number) = codes ",\"status\":\"ended\",\"value\":" ++ decimal number
status_members (Stopped cause) = codes ",\"status\":\"stopped\",\"cause\":" ++ decimal cause

abbrev pub hart_object : ℕ → Status → List ℕ
hart_object hart status =
    lead_of hart
    ++ (codes "{\"hart\":" ++ (decimal hart ++ (status_members status ++ codes "}")))

abbrev pub harts_member : List Status → List ℕ
harts_member statuses = codes ",\"harts\":[" ++ (each_from hart_object 0 statuses ++ codes "]")

-- The bytes that were put out, two hexadecimal digits each.
abbrev pub output_member : List ℕ → List ℕ
output_member output = codes ",\"output\":\"" ++ (flat_map (hex 2) output ++ codes "\"")

-- How many asks of each actor were answered idle, where there are actors that asked.
abbrev pub idle_item : ℕ → ℕ → List ℕ
idle_item actor count = lead_of actor ++ decimal count

abbrev pub idle_array : List ℕ → List ℕ
idle_array idle = codes ",\"idle\":[" ++ (each_from idle_item 0 idle ++ codes "]")

abbrev pub idle_member : List ℕ → List ℕ
idle_member idle = if length idle == 0 then [] else idle_array idle

-- The numbers of the history, an object in the object, where there are some.
abbrev pub counts_object : Counts → ℕ → List Record → List ℕ → List ℕ
counts_object c harts records idle =
    codes ",\"counts\":" ++ (counts_text Members c harts records ++ (idle_member idle ++ codes "}"))

abbrev pub counts_member : Option Counts → ℕ → List Record → List ℕ → List ℕ
counts_member None harts records idle = []
counts_member (Some c) harts records idle = counts_object c harts records idle

-- The whole object, on one line.
unfoldable pub json_text : ℕ → List Record → ℕ → List Status → List ℕ → Option Counts → List ℕ → List ℕ
json_text events records lent statuses output counts idle =
    sizes_text events (length records) lent
    ++ (harts_member statuses ++ (output_member output
    ++ (counts_member counts (length statuses) records idle ++ codes "}\n")))
