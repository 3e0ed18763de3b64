-- What a job that is handed back brings: a completion, which may be a misprediction, or nothing.
use Rattle.std.specs.Prelude.{◌≡◌, ℕ, Some, None}
use Rattle.events.specs.declared.effect.Outcome.{Outcome}
use Rattle.exec_units.specs.Job.{JobView}
use Rattle.retire_squash.specs.declared.active.Active.{Active}
use Rattle.smt_model.specs.{Nexts.redirect_pc, Picture.Picture, Steps.HasCompleted}
use Rattle.smt_model.specs.{Steps.IsMisprediction, Steps.op_in}
use Rattle.core_parts.specs.declared.slot.OpenJob.{OpenJob}

-- The open job is the one that was worked.
pub record IsSameJob (job : OpenJob) (view : JobView) : Type 0 where
  pub seq : job.seq ≡ view.seq
  pub op : job.op ≡ view.op
  pub pc : job.pc ≡ view.pc
  pub first : job.first ≡ view.first
  pub second : job.second ≡ view.second

-- Member a of hart h's active list completes for actor k: it is mispredicted, or the hart goes on
-- as it did.
pub record IsFinish (p q : Picture) (h k : ℕ) (a : Active) (o : Outcome) : Type 0 where
  pub phys : a.phys ≡ p.phys a.seq
  pub op : a.op ≡ op_in p a.seq
  pub straight : redirect_pc o.next a.predicted ≡ None → HasCompleted p q h a.seq k o (p.fetch_pc h)
  pub mispredicts : (pc : ℕ) → redirect_pc o.next a.predicted ≡ Some pc
      → IsMisprediction p q h a.seq k o pc
