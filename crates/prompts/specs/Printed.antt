-- The texts that the prompt prints. (This project's own choice; docs/FORMATS.md, "The prompt".)
use Rattle.std.specs.Prelude.{◌≡◌, ℕ, ◌-◌, Bool, true, false, List, [], ◌++◌, codes, drop, length, reverse, None}
use Rattle.std.specs.Fmt.{decimal}
use Rattle.core_state.specs.View.{CoreView}
use Rattle.address_labels.specs.Labels.{no_marks}
use Rattle.chart_rows.specs.{Rows.AreRows, Views.view_of}
use Rattle.charts.specs.{Text.chart_text, Drawings.Drawing}
use Rattle.events.specs.declared.event.Event.{Event}
use Rattle.chart_rows.specs.{declared.row.Row.Row, declared.view.View.View}
use Rattle.prompts.specs.declared.session.Complaint.{Complaint}
use Rattle.prompts.specs.declared.session.Complaint.TheVariants as complaint

-- What stands where a line may be typed.
abbrev pub sign : List ℕ
sign = codes "> "

-- Why a line does nothing.
abbrev pub reason_text : Complaint → List ℕ
reason_text (complaint.Word number) = codes "script word " ++ (decimal number ++ codes " refused")
reason_text complaint.TooLong = codes "line of more than 4096 bytes"
reason_text complaint.Memory = codes "memory"
reason_text complaint.Unread = codes "file"

abbrev pub complaint_text : Complaint → List ℕ
complaint_text why = codes "smtsim: " ++ (reason_text why ++ codes "\n")

-- What the prompt says of its own words.
unfoldable pub help_text : List ℕ
help_text = codes "words of a script are asked; beside them there are\n"
    ++ (codes "show   the tables of the core\n"
    ++ (codes "why    the asks of the last line of words again, explained\n"
    ++ (codes "chart  the pipeline so far\n"
    ++ (codes "undo   takes the last line of words back\n"
    ++ (codes "help   these lines\n"
    ++ codes "quit   ends, with what `step` prints at its end\n")))))

-- A chart of events with these rows, each event in a column of its own, in lines of 80 characters, with nothing beside
-- pcs and nothing counted.
abbrev pub plain_drawing : ℕ → View → List Event → List Row → Drawing
plain_drawing harts view events rows = record {
  rows = rows;
  events = events;
  columns = [];
  view = view;
  width = 80;
  harts = harts;
  marks = no_marks;
  counters = [];
  registers = [];
}

-- That of all that a core has done.
abbrev pub all_of : CoreView → View
all_of core = view_of 0 (length core.past - 1) None (length core.past)

pub record IsChartOf (core : CoreView) (text : List ℕ) : Type 0 where
  pub rows : List Row
  pub are_rows : AreRows core.past rows
  pub drawn : text ≡ chart_text (plain_drawing core.setup.harts (all_of core) (reverse core.past) rows)

-- The lines of the asks of one more line: what the answers to all lines have behind those to the lines before
-- it. Where the asks are explained, nothing is said here of how.
abbrev pub AreLinesOfAsks : Bool → List ℕ → List ℕ → List ℕ → Type 0
AreLinesOfAsks false before now text = text ≡ drop (length before) now
AreLinesOfAsks true before now text = Unit {0}
