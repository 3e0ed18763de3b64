use Rattle.stress_runs.proofs.Same.{is_test}
use Rattle.litmus_histograms.proofs.counting.is_one_end.Goals as goal

pub returns : goal.returns
returns c = is_test c.is_same.result _ _ c.is_same.ensures.same c.is_same.ensures.different
