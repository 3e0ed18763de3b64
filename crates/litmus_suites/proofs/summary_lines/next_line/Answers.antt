use Rattle.std.proofs.Common.{◌≡◌, ◌==◌, false, ◌∙◌, arith}
use Rattle.std.proofs.lemmas.Bool.Decides.{nat_tests}
use Rattle.std.proofs.lemmas.Option.{IfSome_then}
use Rattle.text_fields.specs.Splitting.{field_count}
use Rattle.source_lines.proofs.Cutting.{cut_line}
use Rattle.litmus_suites.specs.Reading.{line_of}
use Rattle.litmus_suites.proofs.summary_lines.next_line.Goals as goal

pub returns-clause-cut : goal.returns-clause-cut
returns-clause-cut c =
    let more : (field_count 10 c.args.text.now == 1) ≡ false = grind (arith, nat_tests) in
    IfSome_then c.read_line.result c.read_line.ensures.whole
    (λ line whole. cut_line c.args.text.now (line_of line) more (whole ∙ c.split_field.ensures.first))
