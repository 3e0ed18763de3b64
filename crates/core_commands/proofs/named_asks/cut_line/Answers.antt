use Rattle.core_commands.proofs.OfNamedAsks.{first_cut, first_lacks, none_cut}
use Rattle.core_commands.proofs.named_asks.cut_line.Goals as goal

pub returns-then-line-text-clause-none : goal.returns-then-line-text-clause-none
returns-then-line-text-clause-none c =
    none_cut c.args.text.now c.split_field.result.0.now c.split_field.ensures.first c.if-line-text.true

pub returns-clause-cut : goal.returns-clause-cut
returns-clause-cut c =
    first_cut c.args.text.now c.split_field.result.0.now c.split_field.result.1.now c.split_field.ensures.first
    c.split_field.ensures.others c.if-line-text.false

pub returns-clause-line : goal.returns-clause-line
returns-clause-line c = first_lacks c.args.text.now c.split_field.result.0.now c.split_field.ensures.first
