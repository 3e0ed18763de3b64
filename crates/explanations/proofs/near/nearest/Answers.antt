-- A turn: the name is nearer than all before it, or not.
use Rattle.std.proofs.Common.{[], sym}
use Rattle.std.proofs.lemmas.List.{get_or-map}
use Rattle.explanations.proofs.Nearest.{taken, passed}
use Rattle.explanations.proofs.near.nearest.Goals.{then-is_nearer, else-is_nearer}
use Rattle.explanations.proofs.near.nearest.Goals as goal

pub loop-place-preserved : goal.loop-place-preserved
loop-place-preserved c =
    elim c.if-is_nearer.branch [
      | then-is_nearer w ↦
          rw (w.nearest-is, w.least-is)
          (taken _ _ _ _ _ _ _ (sym (get_or-map (λ name. name.now) c.args.names.now c.loop-place.place _ []
          c.loop-place-test.true)) c.in_ok-distance.ensures.value (c.is_nearer.ensures.near w.if-is_nearer.true).0
          (c.is_nearer.ensures.near w.if-is_nearer.true).1 c.loop-place.invariant)
      | else-is_nearer w ↦
          rw (w.nearest-is, w.least-is)
          (passed _ _ _ _ _ _ _ (sym (get_or-map (λ name. name.now) c.args.names.now c.loop-place.place _ []
          c.loop-place-test.true)) c.in_ok-distance.ensures.value (c.is_nearer.ensures.far w.if-is_nearer.false)
          c.loop-place.invariant)
    ]
