use Rattle.std.proofs.Common.{ap, ◌∙◌}
use Rattle.report_lines.specs.Lines.{status_number}
use Rattle.text_fields.proofs.Appending.{appends_more}
use Rattle.plain_commands.proofs.plain.report_order.Goals as goal

pub returns-in-Ok-report_plain-clause-reported : goal.returns-in-Ok-report_plain-clause-reported
returns-in-Ok-report_plain-clause-reported g c = record {
  printed = λ setup of_image of_harts. appends_more _ _ _ _ _ (c.in-Ok.ensures.told setup of_image of_harts)
      c.in-Ok-report_plain.ensures;
  stands = c.status_of.ensures.status ∙ ap status_number (c.as_slice.ensures.value ∙ c.statuses.ensures);
}
