use Rattle.std.proofs.Common.{◌<◌, arith, length}
use Rattle.text_fields.proofs.FirstLemmas.{ends_there, ends_with_text, longer, not_same}
use Rattle.text_fields.proofs.first.behind.Goals as goal

pub returns-then-count-text-clause-first : goal.returns-then-count-text-clause-first
returns-then-count-text-clause-first c =
    (ends_with_text c.args.separator c.args.count c.args.text.now c.requires.lacks c.if-count-text.true).0

pub returns-then-count-text-clause-others : goal.returns-then-count-text-clause-others
returns-then-count-text-clause-others c =
    (ends_with_text c.args.separator c.args.count c.args.text.now c.requires.lacks c.if-count-text.true).1

pub returns-then-text-count-clause-longer : goal.returns-then-text-count-clause-longer
returns-then-text-count-clause-longer c =
    let inside : c.args.count < length c.args.text.now = omega (arith, c.requires.inside, c.if-count-text.false) in
    longer c.args.separator c.args.count c.args.text.now c.requires.lacks inside (not_same _ _ c.if-text-count.true)

pub returns-clause-first : goal.returns-clause-first
returns-clause-first c =
    let inside : c.args.count < length c.args.text.now = omega (arith, c.requires.inside, c.if-count-text.false) in
    (ends_there c.args.separator c.args.count c.args.text.now c.requires.lacks inside c.if-text-count.false).0

pub returns-clause-others : goal.returns-clause-others
returns-clause-others c =
    let inside : c.args.count < length c.args.text.now = omega (arith, c.requires.inside, c.if-count-text.false) in
    (ends_there c.args.separator c.args.count c.args.text.now c.requires.lacks inside c.if-text-count.false).1
