use Rattle.std.proofs.Common.{◌∙◌, ◌<◌, ◌∷◌, sym, ap, arith, drop}
use Rattle.retire_squash.proofs.Rising.{IsRising-behind}
use Rattle.retire_squash.proofs.Turning.{popped, oldest_is, count_is, place_inside}
use Rattle.retire_squash.proofs.active_list.ActiveList.pop.Goals as goal

pub invariant_of-self : goal.invariant_of-self
invariant_of-self c =
    let s = c.self.inside in
    let ring = c.self.invariant in
    let some : 0 < s.count =
    omega (arith, c.requires, count_is s.first s.count s.places.items c.args.self.now ring c.self.view_is) in
    rw c.place_from-self-inside.ensures (
      ring.0,
      place_inside s.first 1,
      omega (arith, ring.2),
      rw (popped s.first s.places.items ring.0 ring.1 s.count some ring.2) (IsRising-behind _ ring.3),
    )

pub returns-clause-rest : goal.returns-clause-rest
returns-clause-rest c =
    let s = c.self.inside in
    let ring = c.self.invariant in
    let some : 0 < s.count =
    omega (arith, c.requires, count_is s.first s.count s.places.items c.args.self.now ring c.self.view_is) in
    rw c.place_from-self-inside.ensures
    (popped s.first s.places.items ring.0 ring.1 s.count some ring.2 ∙ ap (drop 1) c.self.view_is)

pub returns-clause-value : goal.returns-clause-value
returns-clause-value c =
    let s = c.self.inside in
    let ring = c.self.invariant in
    let some : 0 < s.count =
    omega (arith, c.requires, count_is s.first s.count s.places.items c.args.self.now ring c.self.view_is) in
    let old = c.index-oldest.result.now in
    oldest_is s.first s.count s.places.items c.args.self.now ring c.self.view_is some old
    ∙ ap (λ a. a ∷ drop 1 c.args.self.now) (sym c.index-oldest.ensures) ∙ ap (λ l. old ∷ l) (sym (returns-clause-rest c))
