use Rattle.std.proofs.Common.{◌<◌, ◌+◌, arith, sym}
use Rattle.litmus_words.specs.Comments.{Closes, Opens, opens, passes}
use Rattle.litmus_words.proofs.Ending.{behind_closing, behind_last, behind_opening, behind_other, room_of_rest}
use Rattle.litmus_words.proofs.Standing.{closes_one, ends_rest}
use Rattle.litmus_words.proofs.lexer.comment_end.Goals as goal
use Rattle.litmus_words.proofs.lexer.comment_end.Goals.{else-text-at-eq40-via-then-text-at-eq40+else-text-at-eq42, else-text-at-eq40-via-else-text-at-eq40}
use Rattle.litmus_words.proofs.lexer.comment_end.Goals.{else-text-at-eq42-2-via-then-text-at-eq42-2+else-text-at-eq41, else-text-at-eq42-2-via-else-text-at-eq42-2}

pub loop-at-preserved-then-text-at-eq42 : goal.loop-at-preserved-then-text-at-eq42
loop-at-preserved-then-text-at-eq42 c = record {
  on = omega (arith, c.loop-at.invariant.on);
  inside = omega (arith, c.loop-at-test.true);
  deep = omega (arith, c.loop-at.invariant.deep);
  open_ones = omega arith;
  rest = λ to rest. c.loop-at.invariant.rest to
      (opens c.loop-at.depth c.loop-at.at to (c.if-text-at-eq40.true, c.if-text-at-eq42.true) rest);
  only = λ to rest. behind_opening c.args.text.now c.loop-at.depth c.loop-at.at to
      (c.if-text-at-eq40.true, c.if-text-at-eq42.true) (c.loop-at.invariant.only to rest);
}

pub returns-then-depth-le1-clause-rest : goal.returns-then-depth-le1-clause-rest
returns-then-depth-le1-clause-rest c =
    c.loop-at.invariant.rest (c.loop-at.at + 2)
    (ends_rest c.args.text.now c.loop-at.depth c.loop-at.at c.loop-at.invariant.open_ones c.if-depth-le1.true
    (c.if-text-at-eq42-2.true, c.if-text-at-eq41.true))

pub loop-at-preserved-then-text-at-eq41 : goal.loop-at-preserved-then-text-at-eq41
loop-at-preserved-then-text-at-eq41 c =
    let more : 1 < c.loop-at.depth = omega (arith, c.if-depth-le1.false) in
    record {
      on = omega (arith, c.loop-at.invariant.on);
      inside = omega (arith, c.loop-at-test.true);
      deep = omega (arith, c.loop-at.invariant.deep);
      open_ones = omega (arith, more);
      rest = λ to rest. c.loop-at.invariant.rest to
          (closes_one c.args.text.now c.loop-at.depth c.loop-at.at to more
          (c.if-text-at-eq42-2.true, c.if-text-at-eq41.true) rest);
      only = λ to rest. behind_closing c.args.text.now c.loop-at.depth c.loop-at.at to more
          (c.if-text-at-eq42-2.true, c.if-text-at-eq41.true) (c.loop-at.invariant.only to rest);
    }

pub loop-at-preserved : goal.loop-at-preserved
loop-at-preserved c =
    let no_opening : Opens c.args.text.now c.loop-at.at → ⊥ = elim c.else-text-at-eq40.branch [
      | else-text-at-eq40-via-then-text-at-eq40+else-text-at-eq42 w ↦ λ o. w.if-text-at-eq42.false o.1
      | else-text-at-eq40-via-else-text-at-eq40 w ↦ λ o. w.if-text-at-eq40.false o.0
    ] in
    let no_closing : Closes c.args.text.now c.loop-at.at → ⊥ = elim c.else-text-at-eq42-2.branch [
      | else-text-at-eq42-2-via-then-text-at-eq42-2+else-text-at-eq41 w ↦ λ o. w.if-text-at-eq41.false o.1
      | else-text-at-eq42-2-via-else-text-at-eq42-2 w ↦ λ o. w.if-text-at-eq42-2.false o.0
    ] in
    record {
      on = omega (arith, c.loop-at.invariant.on);
      inside = omega (arith, c.loop-at-test.true);
      deep = omega (arith, c.loop-at.invariant.deep);
      open_ones = c.loop-at.invariant.open_ones;
      rest = λ to rest. c.loop-at.invariant.rest to
          (passes c.loop-at.depth c.loop-at.at to no_opening no_closing rest);
      only = λ to rest. behind_other c.args.text.now c.loop-at.depth c.loop-at.at to no_opening no_closing
          (c.loop-at.invariant.only to rest);
    }

pub returns-then-depth-le1-clause-only : goal.returns-then-depth-le1-clause-only
returns-then-depth-le1-clause-only c = λ to rest.
    sym (behind_last c.args.text.now c.loop-at.depth c.loop-at.at to c.if-depth-le1.true
    (c.if-text-at-eq42-2.true, c.if-text-at-eq41.true) (c.loop-at.invariant.only to rest))

pub returns-clause-only : goal.returns-clause-only
returns-clause-only c = λ to rest.
    let room = room_of_rest c.args.text.now c.loop-at.depth c.loop-at.at to (c.loop-at.invariant.only to rest) in
    absurd (omega (arith, room, c.loop-at-test.false, c.loop-at.invariant.inside))
