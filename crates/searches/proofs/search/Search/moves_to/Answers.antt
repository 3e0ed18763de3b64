use Rattle.std.proofs.Common.{◌-◌, ◌<◌, length, refl, arith}
use Rattle.std.proofs.lemmas.Option.{slice_get_read}
use Rattle.searches.proofs.Orders.{told_step}
use Rattle.searches.proofs.search.Search.moves_to.Goals as goal

pub loop-at-preserved : goal.loop-at-preserved
loop-at-preserved g c =
    let origins = c.self.inside.origins.items in
    let origin = c.index-origin.result.now in
    let at = c.loop-at.at in
    let above : 0 < at = omega (arith, c.loop-at-test.true) in
    let inside : at - 1 < length origins = omega (arith, c.loop-at.invariant.inside, c.self.invariant.paired, above) in
    let e = slice_get_read origins (length origins) (at - 1) origin refl inside c.index-origin.ensures in
    let before = c.self.invariant.before (at - 1) origin e in
    record {
      inside = omega (arith, before, c.loop-at.invariant.inside);
      told = told_step origins c.self.invariant.before c.args.place at (at - 1) origin c.loop-at.moves.items
          c.push.new.self.items (omega (arith, above)) e
          c.in_ok-push.ensures.items c.loop-at.invariant.told;
    }
