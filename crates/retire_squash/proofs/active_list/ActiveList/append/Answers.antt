use Rattle.std.proofs.Common.{◌∙◌, ◌<◌, [], ◌∷◌, ◌++◌, ap, subst, arith, length-set}
use Rattle.numbers.specs.Sizes.{most_in_flight}
use Rattle.retire_squash.specs.{Active.AreActivesRising}
use Rattle.retire_squash.proofs.Rising.{IsRising-push}
use Rattle.retire_squash.proofs.Turning.{pushed, count_is}
use Rattle.retire_squash.proofs.active_list.ActiveList.append.Goals as goal

pub invariant_of-self : goal.invariant_of-self
invariant_of-self c =
    let s = c.self.inside in
    let ring = c.self.invariant in
    let room : s.count < most_in_flight =
    omega (arith, c.requires.room, count_is s.first s.count s.places.items c.args.self.now ring c.self.view_is) in
    rw c.place_from-place.ensures (
      length-set s.places.items _ c.args.active ∙ ring.0,
      ring.1,
      omega (arith, room),
      rw (pushed s.first s.places.items ring.0 ring.1 s.count c.args.active room, c.self.view_is)
          (IsRising-push c.args.self.now c.args.active (subst AreActivesRising c.self.view_is ring.3) c.requires.above),
    )

pub returns : goal.returns
returns c =
    let s = c.self.inside in
    let ring = c.self.invariant in
    let room : s.count < most_in_flight =
    omega (arith, c.requires.room, count_is s.first s.count s.places.items c.args.self.now ring c.self.view_is) in
    rw c.place_from-place.ensures
    (pushed s.first s.places.items ring.0 ring.1 s.count c.args.active room ∙ ap (λ l. l ++ c.args.active ∷ []) c.self.view_is)
