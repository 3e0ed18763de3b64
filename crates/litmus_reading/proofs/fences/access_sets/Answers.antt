use Rattle.std.proofs.Common.{[], ◌∷◌}
use Rattle.litmus_reading.proofs.Chains.{tail_is}
use Rattle.litmus_reading.proofs.fences.access_sets.Goals as goal

pub returns-in_err-before-clause-only : goal.returns-in_err-before-clause-only
returns-in_err-before-clause-only c = λ before after it.
    absurd (c.in_err-before.ensures.only before _ (record {
      word = it.first;
      first = it.spelled;
      names = it.names_before;
      named = it.before_named;
    }))

pub returns-in_err-after-clause-only : goal.returns-in_err-after-clause-only
returns-in_err-after-clause-only c = λ before after it.
    let first = c.in_ok-before.ensures.only before (it.comma ∷ it.second ∷ []) (record {
      word = it.first;
      first = it.spelled;
      names = it.names_before;
      named = it.before_named;
    }) in
    absurd (c.in_err-after.ensures.only after [] (record {
      word = it.second;
      first = tail_is _ _ _ _ _ c.in_ok-comma.ensures.first first.1;
      names = it.names_after;
      named = it.after_named;
    }))
