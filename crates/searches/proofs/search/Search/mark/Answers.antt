use Rattle.std.proofs.Common.{arith}
use Rattle.searches.proofs.Marking.{is_unmarked, marked_more, unmarked-set}
use Rattle.searches.proofs.search.Search.mark.Goals as goal

pub returns-clause-marks : goal.returns-clause-marks
returns-clause-marks g c =
    marked_more c.args.self.now c.args.marks.now c.args.place c.requires.marks
    (c.leads_to_marked.ensures.0 c.if-not-leads_to_marked.false)

pub returns-clause-more : goal.returns-clause-more
returns-clause-more g c =
    unmarked-set c.args.marks.now c.args.place
    (is_unmarked c.args.marks.now c.args.place (omega (arith, c.requires.inside, c.requires.marks.paired))
    c.if-marks-place.false)
