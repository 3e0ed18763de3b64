-- The numbers of a history, each under its word. (This project's own choice.)
use Rattle.std.specs.Prelude.{ℕ, List, ◌++◌, codes, flat_map}
use Rattle.std.specs.{Fmt.decimal}
use Rattle.events.specs.declared.effect.Record.{Record}
use Rattle.rv_instr.specs.declared.op.UnitKind.{UnitKind}
use Rattle.rv_instr.specs.declared.op.UnitKind.TheVariants.{Alu, Mul, Mem}
use Rattle.smt_model.specs.Basics.{below}
use Rattle.history_counts.specs.{declared.counts.Counts.Counts, Numbers.retired_by}
use Rattle.text_fields.specs.Each.{each_from}
use Rattle.report_lines.specs.Lines.{count_line}
use Rattle.reports.specs.{declared.form.Form.Form, Form.number_text}

-- Its events, by kind.
abbrev pub early_text : Form → Counts → List ℕ
early_text form c =
    number_text form (codes "{") (codes "fetched") c.fetched
    ++ (number_text form (codes ",") (codes "decoded") c.decoded
    ++ (number_text form (codes ",") (codes "renamed") c.renamed
    ++ number_text form (codes ",") (codes "issued") c.issued))

abbrev pub late_text : Form → Counts → List ℕ
late_text form c =
    number_text form (codes ",") (codes "completed") c.completed
    ++ (number_text form (codes ",") (codes "dropped") c.dropped
    ++ number_text form (codes ",") (codes "retired") c.retired)

abbrev pub events_text : Form → Counts → List ℕ
events_text form c = early_text form c ++ late_text form c

-- What became of its instructions.
abbrev pub squashes_text : Form → Counts → List ℕ
squashes_text form c =
    number_text form (codes ",") (codes "squashed-mispredicted") c.squashed_mispredicted
    ++ (number_text form (codes ",") (codes "squashed-replayed") c.squashed_replayed
    ++ (number_text form (codes ",") (codes "squashed-refetched") c.squashed_refetched
    ++ (number_text form (codes ",") (codes "squashed-ended") c.squashed_ended
    ++ number_text form (codes ",") (codes "squashed-stopped") c.squashed_stopped)))

abbrev pub outcomes_text : Form → Counts → List ℕ
outcomes_text form c =
    number_text form (codes ",") (codes "mispredicted") c.mispredicted
    ++ (number_text form (codes ",") (codes "replayed") c.replayed
    ++ (number_text form (codes ",") (codes "refetched") c.refetched ++ squashes_text form c))

-- How many of these retired instructions each kind of unit has executed of each hart.
abbrev pub unit_word : UnitKind → List ℕ
unit_word Alu = codes "-alu"
unit_word Mul = codes "-mul"
unit_word Mem = codes "-mem"

abbrev pub unit_name : ℕ → UnitKind → List ℕ
unit_name hart unit = codes "hart-" ++ (decimal hart ++ unit_word unit)

abbrev pub unit_text : Form → ℕ → UnitKind → List Record → List ℕ
unit_text form hart unit records =
    number_text form (codes ",") (unit_name hart unit) (retired_by hart unit records)

abbrev pub hart_text : Form → List Record → ℕ → List ℕ
hart_text form records hart =
    unit_text form hart Alu records
    ++ (unit_text form hart Mul records ++ unit_text form hart Mem records)

abbrev pub units_text : Form → ℕ → List Record → List ℕ
units_text form harts records = flat_map (hart_text form records) (below harts)

-- All of them: the events, the instructions, the units.
unfoldable pub counts_text : Form → Counts → ℕ → List Record → List ℕ
counts_text form c harts records =
    events_text form c ++ (outcomes_text form c ++ units_text form harts records)

-- How many asks of each actor were answered idle, those of actor 0 first.
abbrev pub idle_line : ℕ → ℕ → List ℕ
idle_line actor count = count_line (codes "idle-" ++ decimal actor) count

abbrev pub idle_lines : List ℕ → List ℕ
idle_lines idle = each_from idle_line 0 idle
