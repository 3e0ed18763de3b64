use Rattle.std.proofs.Common.{arith}
use Rattle.searches.proofs.Marking.{from_left}
use Rattle.searches.proofs.search.Search.sweep_back.Goals as goal

pub loop-place-preserved : goal.loop-place-preserved
loop-place-preserved g c =
    let i = c.loop-place.invariant in
    record {
      marks = c.mark.ensures.marks;
      inside = omega (arith, i.inside);
      more = from_left c.args.self.now c.loop-place.place c.args.marks.now c.loop-place.marks c.mark.new.marks
          (omega (arith, c.loop-place-test.true))
          c.loop-place.is_more i.more c.mark.result c.if-mark.false c.mark.ensures.more;
    }
