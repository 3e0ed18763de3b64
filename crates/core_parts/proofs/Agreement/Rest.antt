-- A step that moves no instruction into or out of the queue, gives or takes no register and opens or closes no job: the
-- queue, the free list, the values and the jobs agree with the picture after it as they did.
use Rattle.std.specs.Prelude.{◌≡◌, [], ◌∷◌, length}
use Rattle.std.proofs.Common.{◌∙◌, subst, sym, ap}
use Rattle.smt_model.specs.{Picture.Picture, Frames.Fetches, Frames.KeepsAllFlights, Frames.KeepsShared}
use Rattle.core_parts.specs.Accesses.{AccessesAgree, MemoryAgrees}
use Rattle.core_parts.specs.Checkpoints.{CheckpointsAgree}
use Rattle.core_parts.specs.Agree.{QueueAgrees, FreeAgrees, ValuesAgree, JobsAgree, EachAgrees, PartsAgree}
use Rattle.core_parts.specs.declared.parts.Parts.{Parts}
use Rattle.core_parts.proofs.{Agreement.Queues.memory_kept, Agreement.Shared.queue_kept, Agreement.Shared.values_kept}
use Rattle.core_parts.proofs.{Agreement.Queues.accesses_kept}
use Rattle.core_parts.proofs.{Agreement.Shared.jobs_kept}

-- What such a step keeps, whether it fetches or not.
pub record KeepsRest (p q : Picture) : Type 0 where
  pub flights : KeepsAllFlights p q
  pub shared : KeepsShared (Fetches ∷ []) p q

-- Where nothing is fetched either.
pub all_kept : (p q : Picture) → KeepsAllFlights p q → KeepsShared [] p q → KeepsRest p q
all_kept p q flights shared = record {
  flights = flights;
  shared = record {
    kept = shared.kept;
    operands = shared.operands;
    queue = shared.queue;
    free = shared.free;
    values = shared.values;
    readings = shared.readings;
    job = shared.job;
    fetches = tt;
    records = shared.records;
    output = shared.output;
    memory = shared.memory;
  };
}

-- All that such a step leaves, where its harts agree.
pub rest_kept : (p q : Picture) (x y : Parts) → KeepsRest p q → PartsAgree p x → EachAgrees q y.harts.items
    → y.queue ≡ x.queue
    → y.free ≡ x.free → y.values ≡ x.values → y.jobs ≡ x.jobs → AccessesAgree p.touched y.harts.items y.accesses
    → y.memory ≡ x.memory → CheckpointsAgree y.harts.items → PartsAgree q y
rest_kept p q x y keeps agrees harts queue free values jobs accesses memory checkpoints = record {
  harts = harts;
  checkpoints = checkpoints;
  queue = subst (QueueAgrees q) (sym queue)
      (queue_kept p q x.queue keeps.shared.kept keeps.flights keeps.shared.readings keeps.shared.queue agrees.queue);
  free = subst (FreeAgrees q) (sym free) (λ r. agrees.free r ∙ sym (keeps.shared.free r));
  registers = ap length values ∙ agrees.registers;
  values =
      subst (ValuesAgree q) (sym values) (values_kept p q x.values keeps.shared.free keeps.shared.values agrees.values);
  actors = ap length jobs ∙ agrees.actors;
  jobs = subst (JobsAgree q) (sym jobs)
      (jobs_kept p q x.jobs keeps.shared.kept keeps.shared.job keeps.shared.operands agrees.jobs);
  accesses = accesses_kept p.touched q.touched y.harts.items y.accesses keeps.shared.memory.touched accesses;
  memory = subst (MemoryAgrees q) (sym memory) (memory_kept p q x.memory keeps.shared.memory agrees.memory);
}
