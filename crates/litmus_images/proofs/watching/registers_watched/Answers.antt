use Rattle.std.proofs.Common.{arith, ap, sym, ◌∙◌, length, List, [], ◌∷◌, ◌++◌}
use Rattle.watched_outcomes.specs.declared.watch.WatchedRegister.{WatchedRegister}
use Rattle.litmus_images.specs.Watching.{register_of}
use Rattle.litmus_images.proofs.Watched.{some_more, none_more, room}
use Rattle.litmus_images.proofs.watching.registers_watched.Goals as goal
use Rattle.litmus_images.proofs.watching.registers_watched.Goals.{in-Some, in-None}

pub push-requires : goal.push-requires
push-requires c =
    let small = room register_of c.args.observed.now c.loop-each.each-index c.requires c.loop-each-test.true in
    let same = ap length c.loop-each.invariant in (omega arith, omega (arith, small, same))

pub loop-each-preserved : goal.loop-each-preserved
loop-each-preserved c = elim c.match-register_of.branch [
  | in-Some w ↦
      rw w.registers-is (w.push.ensures.items
      ∙ ap (λ (l : List WatchedRegister). l ++ w.in-Some.register ∷ []) c.loop-each.invariant
      ∙ some_more register_of c.args.observed.now c.loop-each.each-index _ w.in-Some.register c.loop-each-test.true
      (sym w.in-Some.is ∙ c.register_of.ensures))
  | in-None w ↦
      rw w.registers-is (c.loop-each.invariant
      ∙ none_more register_of c.args.observed.now c.loop-each.each-index _ c.loop-each-test.true
      (sym w.in-None.is ∙ c.register_of.ensures))
]
