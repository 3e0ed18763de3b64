-- What a step leaves of the parts that all harts share: entries that still wait, jobs that are still open, numbers that
-- are still held.
use Rattle.std.specs.Prelude.{◌≡◌, ℕ, false, List, [], ◌∷◌, Option, Some, None, slice_index_or}
use Rattle.std.specs.List.{AllByRecursion}
use Rattle.std.proofs.Common.{◌∙◌, refl, sym, ap}
use Rattle.rv_instr.specs.declared.op.Op.{Op}
use Rattle.issue_queue.specs.{Queue.Queue, declared.entry.Entry.Entry}
use Rattle.smt_model.specs.{Kinds.first_source, Kinds.second_source, Fates.Renamed, Fates.is_in_flight}
use Rattle.smt_model.specs.{Fates.is as is_fate, Picture.Picture}
use Rattle.smt_model.specs.Steps.{KeepsFetched, ReadsTheSame, KeepsReadings, KeepsJobs, IsSameInstruction}
use Rattle.smt_model.specs.Steps.{KeepsAllFlights}
use Rattle.core_parts.specs.Agree.{source_at, IsEntry, QueueAgrees, ValuesAgree, IsOpenJob, HasOpenJob, JobsAgree}
use Rattle.core_parts.specs.declared.slot.OpenJob.{OpenJob}

-- ---- Entries

pub sources_kept : (p q : Picture) (which : Op → ℕ) (s : ℕ) → ReadsTheSame p q which s
    → source_at p which s ≡ source_at q which s
sources_kept p q which s same = rw (same.reads, same.seen) refl

-- An entry whose instruction still waits.
pub entry_kept : (p q : Picture) (e : Entry) → KeepsFetched p q → q.fate e.seq ≡ p.fate e.seq
    → ReadsTheSame p q first_source e.seq → ReadsTheSame p q second_source e.seq → IsEntry p e → IsEntry q e
entry_kept p q e kept fate first second is = record {
  instruction = is.instruction;
  fetched = kept e.seq is.instruction is.fetched;
  hart = is.hart;
  pc = is.pc;
  op = is.op;
  waits = fate ∙ is.waits;
  sources = is.sources
      ∙ (ap (λ x. x ∷ source_at p second_source e.seq ∷ []) (sources_kept p q first_source e.seq first)
      ∙ ap (λ x. source_at q first_source e.seq ∷ x ∷ []) (sources_kept p q second_source e.seq second));
}

-- An entry stays one whose instruction is in flight as it was, and reads what it read.
pub waiting_kept : (p q : Picture) (e : Entry) → KeepsFetched p q → IsSameInstruction p q e.seq → KeepsReadings p q
    → IsEntry p e → IsEntry q e
waiting_kept p q e kept same readings is =
    let reads =
    readings e.seq (ap (λ f. is_fate f Renamed) is.waits) (ap (λ f. is_fate f Renamed) (same.fate ∙ is.waits)) in
    entry_kept p q e kept same.fate reads.0 reads.1 is

entries_kept : (p q : Picture) (es : List Entry) → KeepsFetched p q → KeepsAllFlights p q → KeepsReadings p q
    → AllByRecursion (IsEntry p) es
    → AllByRecursion (IsEntry q) es
entries_kept p q [] kept flights readings all = tt
entries_kept p q (e ∷ es) kept flights readings all = (
  waiting_kept p q e kept (flights e.seq (ap is_in_flight all.0.waits)) readings all.0,
  entries_kept p q es kept flights readings all.1,
)

pub queue_kept : (p q : Picture) (queue : Queue) → KeepsFetched p q → KeepsAllFlights p q → KeepsReadings p q
    → q.queue ≡ p.queue
    → QueueAgrees p queue → QueueAgrees q queue
queue_kept p q queue kept flights readings same agrees =
    record {
      numbers = agrees.numbers ∙ sym same;
      entries = entries_kept p q queue.entries kept flights readings agrees.entries;
    }

-- ---- Jobs

pub job_kept : (p q : Picture) (k : ℕ) (job : OpenJob) → KeepsFetched p q → q.job k ≡ p.job k → KeepsJobs p q
    → IsOpenJob p k job → IsOpenJob q k job
job_kept p q k job kept same operands is =
    let both = operands k job.seq is.lent (same ∙ is.lent) in
    record {
      lent = same ∙ is.lent;
      instruction = is.instruction;
      fetched = kept job.seq is.instruction is.fetched;
      hart = is.hart;
      pc = is.pc;
      op = is.op;
      first = both.0 ∙ is.first;
      second = both.1 ∙ is.second;
    }

pub lent_kept : (p q : Picture) (k : ℕ) (job : Option OpenJob) → KeepsFetched p q → q.job k ≡ p.job k → KeepsJobs p q
    → HasOpenJob p k job → HasOpenJob q k job
lent_kept p q k None kept same operands is = same ∙ is
lent_kept p q k (Some job) kept same operands is = job_kept p q k job kept same operands is

pub jobs_kept : (p q : Picture) (jobs : List (Option OpenJob)) → KeepsFetched p q → ((k : ℕ) → q.job k ≡ p.job k)
    → KeepsJobs p q
    → JobsAgree p jobs → JobsAgree q jobs
jobs_kept p q jobs kept same operands all =
    λ k d under. lent_kept p q k (slice_index_or jobs k d) kept (same k) operands (all k d under)

-- ---- Numbers

pub values_kept : (p q : Picture) (values : List (Option ℕ)) → ((x : ℕ) → q.free x ≡ p.free x)
    → ((x : ℕ) → q.free x ≡ false → q.value x ≡ p.value x)
    → ValuesAgree p values → ValuesAgree q values
values_kept p q values free kept hold =
    λ x d under claimed. hold x d under (sym (free x) ∙ claimed) ∙ sym (kept x claimed)
