use Rattle.std.proofs.Common.{◌-◌, take, drop, refl, sym, subst, arith}
use Rattle.std.proofs.lemmas.List.{take-append-drop}
use Rattle.retire_squash.specs.{Active.AreActivesRising, Ring.in_ring}
use Rattle.retire_squash.proofs.Rising.{Within-more, IsRising-front}
use Rattle.retire_squash.proofs.Turning.{fewer}
use Rattle.retire_squash.proofs.active_list.ActiveList.cut_youngest.Goals as goal

pub returns-then-youngest-after-clause-none : goal.returns-then-youngest-after-clause-none
returns-then-youngest-after-clause-none c = (
  refl,
  Within-more c.args.self.now c.in_ok-youngest.youngest.seq c.args.after c.in_ok-youngest.ensures.above
      c.if-youngest-after.true,
)

pub invariant_of-self : goal.invariant_of-self
invariant_of-self c =
    let s = c.self.inside in
    let ring = c.self.invariant in
    let all = in_ring s.first s.count s.places.items in (
      ring.0,
      ring.1,
      omega (arith, ring.2),
      rw (fewer s.first s.places.items ring.0 ring.1 s.count)
          (IsRising-front (take (s.count - 1) all) (drop (s.count - 1) all)
          (subst AreActivesRising (sym (take-append-drop (s.count - 1) all)) ring.3)),
    )
