-- What is lent to a unit, and what the unit hands back.
use Rattle.std.specs.Prelude.{ℕ, None}
use Rattle.rv_instr.specs.declared.op.Op.{Op}
use Rattle.events.specs.declared.effect.Outcome.{Outcome}
use Rattle.smt_model.specs.{Exec.exec, Outcomes.outcome_of}

-- An instruction's number, what was found at its pc, the pc, and the numbers of its first and its
-- second source:
-- 0 where it has none.
pub record JobView : Type 0 where
  pub seq : ℕ
  pub op : Op
  pub pc : ℕ
  pub first : ℕ
  pub second : ℕ

-- The job, and what it came to.
pub record DoneView : Type 0 where
  pub job : JobView
  pub outcome : Outcome

-- What a unit makes of a job: all that the instruction computes, with no look at memory and without
-- the faults of its access.
unfoldable pub outcome_of_job : JobView → Outcome
outcome_of_job job = outcome_of job.op (exec job.op job.pc job.first job.second) None
