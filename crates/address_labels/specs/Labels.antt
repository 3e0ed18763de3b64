-- What is wanted beside addresses. (This project's own choice.)
use Rattle.std.specs.Prelude.{ℕ, ◌-◌, Bool, if◌then◌else◌, List, Option, Some, None, option_map}
use Rattle.symbols.specs.{Tables.Table, Tables.table_of, Naming.symbol_for, Symbols.name_of}
use Rattle.std.specs.Borrow.{Bor}
use Rattle.source_lines.specs.{declared.reading.SourceLines.SourceLines, Lines.Origin, Lines.origins_of}
use Rattle.address_labels.specs.declared.labels.Labels.{Labels}

-- The names of the program, and the lines of its sources, where they are wanted.
pub record Marks : Type 0 where
  pub names : Option Table
  pub lines : Option (List Origin)

abbrev pub lines_in : Option (Bor SourceLines) → Option (List Origin)
lines_in lines = option_map (λ lines. origins_of lines.now.lines.items) lines

abbrev pub marks_of : Labels → Marks
marks_of labels = record {
  names = option_map (λ names. table_of names.now) labels.names;
  lines = lines_in labels.lines;
}

abbrev pub no_marks : Marks
no_marks = record { names = None; lines = None }

-- The marks of a command that has these names and lines of its program.
abbrev pub marks_where : Bool → Table → Option (List Origin) → Marks
marks_where wanted names lines = record { names = if wanted then Some names else None; lines = lines }

-- Where an address is: in what, and how many bytes behind its start.
pub record Place : Type 0 where
  pub name : List ℕ
  pub behind : ℕ

abbrev pub place_in : Table → ℕ → Option Place
place_in table address =
    option_map (λ symbol. record { name = name_of table.names symbol; behind = address - symbol.address })
    (symbol_for table.symbols address)
