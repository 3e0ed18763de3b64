use Rattle.std.proofs.Common.{◌∙◌, ◌-◌, ◌<◌, [], ◌∷◌, ◌++◌, length, take, sym, ap, subst, arith}
use Rattle.retire_squash.specs.Active.{AreActivesRising, Within}
use Rattle.retire_squash.proofs.Rising.{Within-last}
use Rattle.retire_squash.proofs.Turning.{youngest_is}
use Rattle.retire_squash.proofs.active_list.ActiveList.youngest.Goals as goal

pub returns-clause-some : goal.returns-clause-some
returns-clause-some c =
    let s = c.self.inside in
    let now = c.args.self.now in
    let some : 0 < s.count = omega (arith, c.if-self-eq0.false) in
    youngest_is s.first s.count s.places.items now c.self.invariant c.self.view_is some c.index.result.now
    ∙ ap (λ y. take (length now - 1) now ++ y ∷ []) (rw (← c.place_from.ensures) (sym c.index.ensures))

pub returns-clause-above : goal.returns-clause-above
returns-clause-above c =
    let now = c.args.self.now in
    subst (Within c.index.result.now.seq) (sym (returns-clause-some c))
    (Within-last (take (length now - 1) now) c.index.result.now
    (subst AreActivesRising (c.self.view_is ∙ returns-clause-some c) c.self.invariant.3))
