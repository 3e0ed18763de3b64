-- How many of the files that a line reads are standard input, by the name of its command and what was found for it.
use Rattle.std.proofs.Common.{◌≡◌, ℕ, ◌+◌, nat_le, Bool, true, false, List, Option, None, Some, is_some, Bor}
use Rattle.std.proofs.Common.{option_map, codes, refl, sym, ap, ◌∙◌, if◌then◌else◌}
use Rattle.std.specs.{Str.bytes_eq}
use Rattle.clap.specs.Words.{Row, Text, first_of, subcommand_rows_of}
use Rattle.clap.specs.Matches.{subcommand_name_of}
use Rattle.clap.specs.declared.parser.matches.ArgMatches.{ArgMatches}
use Rattle.sim_inputs.specs.declared.line.{Line.Line, Beside.Beside}
use Rattle.sim_inputs.specs.declared.line.Beside.TheVariants as beside
use Rattle.sim_inputs.specs.declared.line.Command.{Command as LineCommand}
use Rattle.sim_inputs.specs.declared.line.Command.TheVariants as commands
use Rattle.sim_inputs.specs.declared.line.ProgramCommand.TheVariants as program
use Rattle.sim_inputs.specs.CommandLine.{IsBeside, IsCommandOf, IsLineOf, Names}
use Rattle.sim_inputs.specs.{declared.files.Files.Files, Files.beside_name, Files.files_with, Files.input_count}
use Rattle.sim_inputs.specs.Files.{reads_input_once}
use Rattle.sim_inputs.proofs.Subcommand.{is_line}
use Rattle.sim_inputs.proofs.Written.{either, text_of}

abbrev count_of : Option (Bor Text) → ℕ
count_of file = input_count (text_of file)

abbrev given : Text → List Row → ℕ
given name rows = input_count (first_of name rows)

abbrev program_given : Text → List Row → ℕ
program_given name rows =
    if bytes_eq name (codes "migrate") then 0
    else (if bytes_eq name (codes "litmus") then given (codes "TEST") rows else given (codes "IMAGE") rows)

abbrev beside_given : List Row → ℕ
beside_given rows = input_count (either (first_of (codes "script") rows)
    (either (first_of (codes "order") rows) (first_of (codes "trace") rows)))

abbrev second_given : Text → List Row → ℕ
second_given name rows =
    if bytes_eq name (codes "step") then given (codes "SCRIPT") rows
    else (if bytes_eq name (codes "plain") then given (codes "ORDER") rows
    else (if bytes_eq name (codes "schedule") then given (codes "ORDER") rows
    else (if bytes_eq name (codes "explain") then beside_given rows
    else (if bytes_eq name (codes "run") then 0 else (if bytes_eq name (codes "list") then 0
    else (if bytes_eq name (codes "outcomes") then 0 else (if bytes_eq name (codes "litmus") then given (codes "expect") rows
    else given (codes "TRACE") rows)))))))

abbrev lines_given : Text → List Row → ℕ
lines_given name rows =
    if bytes_eq name (codes "schedule") then 0 else (if bytes_eq name (codes "script") then 0
    else (if bytes_eq name (codes "chart") then 0 else (if bytes_eq name (codes "explain") then 0
    else (if bytes_eq name (codes "litmus") then 0 else (if bytes_eq name (codes "migrate") then 0
    else given (codes "lines") rows)))))

-- the files that are read
abbrev read_count : Files → ℕ
read_count files =
    count_of files.config + count_of files.program + count_of files.second + count_of files.lines

abbrev read_given : Text → List Row → ℕ
read_given name rows =
    given (codes "config") rows + program_given name rows + second_given name rows + lines_given name rows

beside_is : (rows : List Row) (b : Option Beside) → IsBeside rows b
    → count_of (option_map beside_name b) ≡ beside_given rows
beside_is rows None is = rw (is.0, is.1, is.2) refl
beside_is rows (Some (beside.Script script)) is = rw is.0 refl
beside_is rows (Some (beside.Order order)) is = rw (is.1, is.0) refl
beside_is rows (Some (beside.Trace trace)) is = rw (is.1, is.2, is.0) refl

read_is : (name : Text) (rows : List Row) (config : Option (Bor Text)) (command : LineCommand)
    → first_of (codes "config") rows ≡ text_of config → IsCommandOf name rows command
    → read_count (files_with config command) ≡ read_given name rows
read_is name rows config (commands.OfProgram (program.Step step)) has is =
    rw (is.0, has, is.1.image, is.1.script, is.1.lines) refl
read_is name rows config (commands.OfProgram (program.Run run)) has is = rw (is.0, has, is.1.image, is.1.lines) refl
read_is name rows config (commands.OfProgram (program.Check check)) has is =
    rw (is.0, has, is.1.image, is.1.trace, is.1.lines) refl
read_is name rows config (commands.OfProgram (program.Plain plain)) has is =
    rw (is.0, has, is.1.image, is.1.order, is.1.lines) refl
read_is name rows config (commands.OfProgram (program.Schedule schedule)) has is = rw (is.0, has, is.1.image, is.1.order) refl
read_is name rows config (commands.OfProgram (program.Script script)) has is = rw (is.0, has, is.1.image, is.1.trace) refl
read_is name rows config (commands.OfProgram (program.List list)) has is = rw (is.0, has, is.1.image, is.1.lines) refl
read_is name rows config (commands.OfProgram (program.Chart chart)) has is = rw (is.0, has, is.1.image, is.1.trace) refl
read_is name rows config (commands.OfProgram (program.Outcomes outcomes)) has is = rw (is.0, has, is.1.image, is.1.lines) refl
read_is name rows config (commands.Explain explain) has is =
    rw (is.0, has, is.1.image) (ap (λ n. input_count (text_of config) + input_count (Some explain.image.now) + n + 0)
    (beside_is rows explain.beside is.1.beside))
read_is name rows config (commands.Litmus litmus) has is = rw (is.0, has, is.1.test, is.1.expect) refl
read_is name rows config (commands.Migrate migrate) has is = rw (is.0, has, is.1.trace) refl

once_by_name : (name : Text) (rows : List Row) (line : Line) → first_of (codes "config") rows ≡ text_of line.config
    → IsCommandOf name rows line.command → reads_input_once line ≡ nat_le (read_given name rows) 1
once_by_name name rows line has is = ap (λ n. nat_le n 1) (read_is name rows line.config line.command has is)

-- a subcommand of which two files are standard input is no line
pub no_line_twice : (m : ArgMatches) (name : Text) (rows : List Row) (line : Line) → subcommand_name_of m ≡ Some name
    → option_map (λ (p : Text × List Row). p.1) (subcommand_rows_of m) ≡ Some rows
    → first_of (codes "config") rows ≡ text_of line.config → IsCommandOf name rows line.command
    → reads_input_once line ≡ false → (one : Line) → Names (subcommand_rows_of m) one → ⊥
no_line_twice m name rows line named found has is twice one names =
    let is_one = is_line m name rows one named found names in
    let off : false ≡ true = sym twice ∙ once_by_name name rows line has is
    ∙ sym (once_by_name name rows one is_one.config is_one.command) ∙ is_one.once in cc
