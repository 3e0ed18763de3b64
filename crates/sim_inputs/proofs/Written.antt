-- The file that a line writes, by the name of its command and what was found for it.
use Rattle.std.proofs.Common.{◌≡◌, Bool, true, false, List, Option, None, Some, is_some, Bor, if◌then◌else◌}
use Rattle.std.proofs.Common.{◌&&◌, option_map, codes, refl, sym, ap, ap₂, ◌∙◌}
use Rattle.std.specs.{Str.bytes_eq}
use Rattle.clap.specs.Words.{Row, Text, first_of, subcommand_rows_of}
use Rattle.clap.specs.Matches.{subcommand_name_of}
use Rattle.clap.specs.declared.parser.matches.ArgMatches.{ArgMatches}
use Rattle.sim_inputs.specs.declared.line.{Line.Line}
use Rattle.sim_inputs.specs.declared.line.Command.{Command as LineCommand}
use Rattle.sim_inputs.specs.declared.line.Command.TheVariants as commands
use Rattle.sim_inputs.specs.declared.line.ProgramCommand.TheVariants as program
use Rattle.sim_inputs.specs.CommandLine.{IsCommandOf, Names}
use Rattle.sim_inputs.specs.Files.{files_with, is_undashed, writes_no_dash}
use Rattle.sim_inputs.proofs.Subcommand.{is_line}

abbrev pub text_of : Option (Bor Text) → Option Text
text_of file = option_map (λ f. f.now) file

abbrev pub either : Option Text → Option Text → Option Text
either first second = if is_some first then first else second

-- what is written of an order
abbrev order_text : List Row → Option Text
order_text rows = either (first_of (codes "witness") rows)
    (either (first_of (codes "script") rows)
    (either (first_of (codes "story") rows) (first_of (codes "story-svg") rows)))

abbrev written_text : Text → List Row → Option Text
written_text name rows =
    if bytes_eq name (codes "step") then first_of (codes "trace") rows
    else (if bytes_eq name (codes "run") then first_of (codes "trace") rows
    else (if bytes_eq name (codes "chart") then either (first_of (codes "svg") rows) (first_of (codes "kanata") rows)
    else (if bytes_eq name (codes "outcomes") then either (first_of (codes "svg") rows) (order_text rows)
    else (if bytes_eq name (codes "litmus")
    then either (first_of (codes "image") rows) (either (first_of (codes "svg") rows) (order_text rows))
    else (if bytes_eq name (codes "migrate") then first_of (codes "OUT") rows
    else (if bytes_eq name (codes "plain") then first_of (codes "story-svg") rows else None))))))

-- the second file that is written
abbrev beside_text : Text → List Row → Option Text
beside_text name rows =
    if bytes_eq name (codes "chart")
    then (if is_some (first_of (codes "svg") rows) then first_of (codes "kanata") rows else None) else None

either_text : (a b : Option (Bor Text)) (first second : Option Text) → first ≡ text_of a → second ≡ text_of b
    → text_of (if is_some a then a else b) ≡ either first second
either_text None b first second is_a is_b = rw (is_a, is_b) refl
either_text (Some file) b first second is_a is_b = rw is_a refl

written_is : (name : Text) (rows : List Row) (config : Option (Bor Text)) (command : LineCommand)
    → IsCommandOf name rows command → text_of (files_with config command).written ≡ written_text name rows
written_is name rows config (commands.OfProgram (program.Step step)) is = rw is.0 (sym is.1.trace)
written_is name rows config (commands.OfProgram (program.Run run)) is = rw is.0 (sym is.1.trace)
written_is name rows config (commands.OfProgram (program.Check check)) is = rw is.0 refl
written_is name rows config (commands.OfProgram (program.Plain plain)) is = rw is.0 (sym is.1.story_svg)
written_is name rows config (commands.OfProgram (program.Schedule schedule)) is = rw is.0 refl
written_is name rows config (commands.OfProgram (program.Script script)) is = rw is.0 refl
written_is name rows config (commands.OfProgram (program.List list)) is = rw is.0 refl
written_is name rows config (commands.OfProgram (program.Chart chart)) is =
    rw is.0 (either_text chart.svg chart.kanata _ _ is.1.svg is.1.kanata)
written_is name rows config (commands.OfProgram (program.Outcomes outcomes)) is =
    let last = either_text outcomes.story outcomes.story_svg _ _ is.1.story is.1.story_svg in
    let behind = either_text outcomes.script _ _ _ is.1.script (sym last) in
    let order = either_text outcomes.witness _ _ _ is.1.witness (sym behind) in
    rw is.0 (either_text outcomes.svg _ _ _ is.1.svg (sym order))
written_is name rows config (commands.Explain explain) is = rw is.0 refl
written_is name rows config (commands.Litmus litmus) is =
    let last = either_text litmus.story litmus.story_svg _ _ is.1.story is.1.story_svg in
    let behind = either_text litmus.script _ _ _ is.1.script (sym last) in
    let order = either_text litmus.witness _ _ _ is.1.witness (sym behind) in
    let drawn = either_text litmus.svg _ _ _ is.1.svg (sym order) in
    rw is.0 (either_text litmus.image _ _ _ is.1.image (sym drawn))
written_is name rows config (commands.Migrate migrate) is = rw is.0 (ap Some refl ∙ sym is.1.out)

log_text : (svg kanata : Option (Bor Text)) (picture log : Option Text) → picture ≡ text_of svg → log ≡ text_of kanata
    → text_of (if is_some svg then kanata else None) ≡ (if is_some picture then log else None)
log_text None kanata picture log is_picture is_log = rw is_picture refl
log_text (Some file) kanata picture log is_picture is_log = rw (is_picture, is_log) refl

beside_is : (name : Text) (rows : List Row) (config : Option (Bor Text)) (command : LineCommand)
    → IsCommandOf name rows command → text_of (files_with config command).beside ≡ beside_text name rows
beside_is name rows config (commands.OfProgram (program.Step step)) is = rw is.0 refl
beside_is name rows config (commands.OfProgram (program.Run run)) is = rw is.0 refl
beside_is name rows config (commands.OfProgram (program.Check check)) is = rw is.0 refl
beside_is name rows config (commands.OfProgram (program.Plain plain)) is = rw is.0 refl
beside_is name rows config (commands.OfProgram (program.Schedule schedule)) is = rw is.0 refl
beside_is name rows config (commands.OfProgram (program.Script script)) is = rw is.0 refl
beside_is name rows config (commands.OfProgram (program.List list)) is = rw is.0 refl
beside_is name rows config (commands.OfProgram (program.Chart chart)) is =
    rw is.0 (log_text chart.svg chart.kanata _ _ is.1.svg is.1.kanata)
beside_is name rows config (commands.OfProgram (program.Outcomes outcomes)) is = rw is.0 refl
beside_is name rows config (commands.Explain explain) is = rw is.0 refl
beside_is name rows config (commands.Litmus litmus) is = rw is.0 refl
beside_is name rows config (commands.Migrate migrate) is = rw is.0 refl

undashed_by_name : (name : Text) (rows : List Row) (line : Line) → IsCommandOf name rows line.command
    → writes_no_dash line ≡ (is_undashed (written_text name rows) && is_undashed (beside_text name rows))
undashed_by_name name rows line is =
    ap₂ (λ (one other : Option Text). is_undashed one && is_undashed other)
    (written_is name rows line.config line.command is) (beside_is name rows line.config line.command is)

-- a subcommand whose file is named by a dash is no line
pub no_dashed_line : (m : ArgMatches) (name : Text) (rows : List Row) (line : Line) → subcommand_name_of m ≡ Some name
    → option_map (λ (p : Text × List Row). p.1) (subcommand_rows_of m) ≡ Some rows
    → IsCommandOf name rows line.command → writes_no_dash line ≡ false → (one : Line)
    → Names (subcommand_rows_of m) one → ⊥
no_dashed_line m name rows line named has is dashed one names =
    let is_one = is_line m name rows one named has names in
    let off : false ≡ true = sym dashed ∙ undashed_by_name name rows line is
    ∙ sym (undashed_by_name name rows one is_one.command) ∙ is_one.undashed in cc
