use Rattle.std.proofs.Common.{refl, arith}
use Rattle.history_scripts.proofs.Judging.{follow_next, guessed_next, all_guessed}
use Rattle.history_scripts.proofs.making.first_other.Goals as goal

pub loop-index-preserved : goal.loop-index-preserved
loop-index-preserved g c =
    let events = c.args.events.now in
    let i = c.loop-index.index in
    let core = c.args.core.now in
    let inside = c.loop-index-test.true in
    let before = c.loop-index.invariant in (
      follow_next events i _ core c.loop-index.core _ _ before.0 inside c.requires.room c.requires.legal
          c.follow-followed.ensures,
      guessed_next g.P.Predict.predicts core.setup events i _ core c.loop-index.core before.0 refl inside before.1
          c.in-Alike.ensures,
    )

pub returns-clause-none : goal.returns-clause-none
returns-clause-none g c =
    let done = c.loop-index-test.false in
    all_guessed g.P.Predict.predicts c.args.core.now.setup c.args.events.now c.loop-index.index (omega arith)
    c.loop-index.invariant.1
