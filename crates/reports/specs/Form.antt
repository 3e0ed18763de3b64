-- A number under its word: in a line, or in a JSON object. (This project's own choice; JSON: RFC 8259.)
use Rattle.std.specs.Prelude.{ℕ, List, ◌++◌, codes}
use Rattle.std.specs.{Fmt.decimal}
use Rattle.report_lines.specs.Lines.{count_line}
use Rattle.reports.specs.{declared.form.Form.Form}
use Rattle.reports.specs.declared.form.Form.TheVariants.{Lines, Members}

-- A member of an object: what stands before it, its name in quotes, a colon and the number.
abbrev pub member_text : List ℕ → List ℕ → ℕ → List ℕ
member_text lead name number =
    lead ++ (codes "\"" ++ (name ++ (codes "\":" ++ decimal number)))

abbrev pub number_text : Form → List ℕ → List ℕ → ℕ → List ℕ
number_text Lines lead name number = count_line name number
number_text Members lead name number = member_text lead name number
