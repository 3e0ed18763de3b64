-- When an instruction can be issued, and the job that it becomes.
use Rattle.std.specs.Prelude.{◌≡◌, ℕ, Bool, true, not, ◌==◌, ◌&&◌, nat_lt, None, is_some}
use Rattle.std.specs.Prelude.{slice_index_or}
use Rattle.std.specs.List.{list_all, list_any}
use Rattle.rv_instr.specs.{Registers.op_unit, declared.op.UnitKind.UnitKind}
use Rattle.issue_queue.specs.{declared.entry.Entry.Entry, declared.entry.Source.Source}
use Rattle.issue_queue.specs.{declared.entry.Source.TheVariants.Value}
use Rattle.issue_queue.specs.{declared.entry.Source.TheVariants.Waits}
use Rattle.exec_units.specs.Job.{JobView}
use Rattle.smt_model.specs.{Fates.Renamed, Kinds.first_source, Kinds.second_source, Kinds.same_unit}
use Rattle.smt_model.specs.{Picture.Picture, Steps.IsIssue, Steps.op_in}
use Rattle.core_parts.specs.{Agree.IsEntry, declared.slot.OpenJob.OpenJob}

-- A unit of this kind may take the instruction up: it is of the kind, and both its sources have a
-- number.
abbrev pub suits : Picture → UnitKind → ℕ → Bool
suits p kind s = same_unit kind (op_unit (op_in p s))
    && (is_some (p.reads first_source s) && is_some (p.reads second_source s))

-- Actor k, a unit of this kind, can take up instruction n: it has no job, and of those that wait n
-- is the oldest that suits it.
pub record CanIssue (p : Picture) (k : ℕ) (kind : UnitKind) (n : ℕ) : Type 0 where
  pub idle : p.job k ≡ None
  pub waits : p.fate n ≡ Renamed
  pub queued : list_any (λ t. t == n) p.queue ≡ true
  pub fits : suits p kind n ≡ true
  pub oldest : list_all (λ t. not (nat_lt t n && suits p kind t)) p.queue ≡ true

-- An issue by actor k of the instruction of an entry, both of whose sources have a number.
pub record IsIssuing (p q : Picture) (k : ℕ) (e : Entry) : Type 0 where
  pub entry : IsEntry p e
  pub step : IsIssue p q e.hart e.seq k

-- The number of a source, 0 where it has none.
abbrev pub source_number : Source → ℕ
source_number (Value number) = number
source_number (Waits register) = 0

-- The number of an entry's first or second source.
abbrev pub first_source_number : Entry → ℕ
first_source_number e = source_number (slice_index_or e.sources 0 (Value 0))

abbrev pub second_number : Entry → ℕ
second_number e = source_number (slice_index_or e.sources 1 (Value 0))

-- The job that an entry becomes, as its actor gets it and as the core keeps it.
abbrev pub job_of : Entry → JobView
job_of e =
    record {
      seq = e.seq;
      op = e.op;
      pc = e.pc;
      first = first_source_number e;
      second = second_number e;
    }

abbrev pub open_job_of : Entry → OpenJob
open_job_of e = record {
  hart = e.hart;
  place = e.place;
  seq = e.seq;
  op = e.op;
  pc = e.pc;
  first = first_source_number e;
  second = second_number e;
}
