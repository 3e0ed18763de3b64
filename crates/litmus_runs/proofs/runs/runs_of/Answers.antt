use Rattle.litmus_runs.proofs.runs.runs_of.Goals as goal

pub returns-clause-runs : goal.returns-clause-runs
returns-clause-runs c = rw c.into_runs.ensures.runs c.in_ok-follow.ensures.runs

pub returns-clause-kept : goal.returns-clause-kept
returns-clause-kept c = rw c.end_hart.ensures c.in_ok-follow.ensures.kept

pub returns-clause-listed : goal.returns-clause-listed
returns-clause-listed c = λ whole. rw c.into_runs.ensures.runs
    (c.in_ok-follow.ensures.listed (rw c.into_runs.ensures.whole at whole))

pub returns-clause-learnt : goal.returns-clause-learnt
returns-clause-learnt c = λ whole knows. rw c.end_hart.ensures
    (c.in_ok-follow.ensures.learnt (rw c.into_runs.ensures.whole at whole) (rw c.end_hart.ensures at knows))
