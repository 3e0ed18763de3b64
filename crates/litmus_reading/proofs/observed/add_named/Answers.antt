use Rattle.std.proofs.Common.{sym, ◌∙◌, arith}
use Rattle.litmus_reading.specs.Looked.{is_named}
use Rattle.litmus_reading.proofs.Looking.{one_told}
use Rattle.litmus_reading.proofs.observed.add_named.Goals as goal

pub returns-then-len-ge-MOST_OBSERVED-clause-only : goal.returns-then-len-ge-MOST_OBSERVED-clause-only
returns-then-len-ge-MOST_OBSERVED-clause-only c = λ few.
    let room = one_told (is_named c.args.question.now.condition c.args.question.now.filter
    c.args.question.now.listed.observed.items) c.args.one c.args.observed.now.items
    (sym c.is_named.ensures ∙ c.if-not-is_named.false) few in
    absurd (omega (arith, room, c.if-len-ge-MOST_OBSERVED.true))
