use Rattle.hints.proofs.Together.{part_line, part_once}
use Rattle.hints.proofs.hint.line_of.Goals as goal

pub returns-clause-line : goal.returns-clause-line
returns-clause-line c =
    rw (c.in_ok-extend_from_slice-2.ensures.items, c.in_ok-extend_from_slice.ensures.items, c.in_ok-line.ensures)
    (part_line c.args.part c.args.shown.now c.requires)

pub returns-clause-one : goal.returns-clause-one
returns-clause-one c =
    rw (c.in_ok-extend_from_slice-2.ensures.items, c.in_ok-extend_from_slice.ensures.items, c.in_ok-line.ensures)
    (part_once c.args.part c.args.shown.now c.requires)
