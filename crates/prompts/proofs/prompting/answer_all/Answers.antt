use Rattle.std.proofs.Common.{ap}
use Rattle.prompts.specs.Kept.{kept_in}
use Rattle.prompts.proofs.Turns.{starts, comes_on, ends_so, stops}
use Rattle.prompts.proofs.prompting.answer_all.Goals as goal

pub loop-turn-init : goal.loop-turn-init
loop-turn-init g c = record {
  so_far = starts _ _ _ _ _ (ap kept_in c.requires.none) c.requires.session.asked;
  is_session = c.requires.session;
}

pub loop-turn-preserved : goal.loop-turn-preserved
loop-turn-preserved g c =
    let so_far = c.loop-turn.invariant in
    let turn = c.in_ok-ended.ensures in
    record {
      so_far = comes_on _ _ _ _ _ _ _ _ _ _ _ c.in-None.is so_far.so_far turn.turn turn.session.asked;
      is_session = turn.session;
    }

pub returns-in-Some-clause-typed : goal.returns-in-Some-clause-typed
returns-in-Some-clause-typed g c =
    let turn = c.in_ok-ended.ensures in
    ends_so _ _ _ _ _ _ _ _ _ _ _ _ c.in-Some.is c.loop-turn.invariant.so_far turn.turn turn.session.asked

pub returns-clause-typed : goal.returns-clause-typed
returns-clause-typed g c =
    stops _ _ _ _ _ _ _ _ _ c.loop-turn.invariant.so_far c.in_ok-show_sign.ensures c.in_ok-complain.ensures
