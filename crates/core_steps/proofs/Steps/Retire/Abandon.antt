-- The oldest of a hart leaves and commits nothing, in two steps: between them stands the history's own picture, but for
-- the hart's map, which still has its register. The squash makes the map anew, so it takes any.
use Rattle.std.specs.Prelude.{◌≡◌, ◌≢◌, ℕ, ◌<◌, length, slice_index_or}
use Rattle.std.proofs.Common.{◌∙◌, sym, subst}
use Rattle.retire_squash.specs.declared.active.Active.{Active}
use Rattle.smt_model.specs.{declared.config.Status.Status, Picture.Picture}
use Rattle.smt_model.specs.Steps.{IsLeave, IsSameHart, IsSameInstruction, KeepsReadings}
use Rattle.core_steps.specs.Checkpoints.{with_map}
use Rattle.core_parts.specs.{Agree.HartAgrees, Agree.PartsAgree, declared.hart.HartState.HartState}
use Rattle.core_parts.specs.declared.parts.Parts.{Parts}
use Rattle.core_steps.proofs.Steps.OtherMap.{own_map, other_map}
use Rattle.core_steps.specs.Retirement.{Ends, Refetches, Abandons, Leaves}

same_after : (p m : Picture) (h g : ℕ) → g ≢ h → IsSameHart p m g → IsSameHart p (with_map (p.mapped h) m h) g
same_after p m h g other same = record {
  in_decode = same.in_decode;
  in_rename = same.in_rename;
  flight = same.flight;
  icount = same.icount;
  mapped = λ r above under. other_map (p.mapped h) m h g r other ∙ same.mapped r above under;
  committed = same.committed;
  fetch_pc = same.fetch_pc;
  status = same.status;
}

instruction_after : (p m : Picture) (h t : ℕ) → IsSameInstruction p m t → IsSameInstruction p (with_map (p.mapped h) m h) t
instruction_after p m h t same = record { fate = same.fate; phys = same.phys; completion = same.completion }

reads_after : (p m : Picture) (h : ℕ) → KeepsReadings p m → KeepsReadings p (with_map (p.mapped h) m h)
reads_after p m h readings = λ s waits still.
    let both = readings s waits still in
    (record { seen = both.0.seen; reads = both.0.reads }, record { seen = both.1.seen; reads = both.1.reads })

leave_with : (p m : Picture) (h n : ℕ) (standing : Status) (goes_on : ℕ) → IsLeave p m h n standing goes_on
    → IsLeave p (with_map (p.mapped h) m h) h n standing goes_on
leave_with p m h n standing goes_on leave =
    let own = leave.stays.hart in
    let shared = leave.stays.shared in
    record {
      of_hart = leave.of_hart;
      own = leave.own;
      flight = leave.flight;
      status = leave.status;
      fetch_pc = leave.fetch_pc;
      free = leave.free;
      flights = λ t flies other. instruction_after p m h t (leave.flights t flies other);
      stays = record {
        hart = record {
          in_decode = own.in_decode;
          in_rename = own.in_rename;
          flight = tt;
          icount = own.icount;
          mapped = tt;
          committed = own.committed;
          fetch_pc = tt;
          status = tt;
        };
        others = λ g other. same_after p m h g other (leave.stays.others g other);
        shared = record {
          kept = shared.kept;
          operands = shared.operands;
          queue = shared.queue;
          free = tt;
          values = shared.values;
          readings = reads_after p m h shared.readings;
          job = shared.job;
          fetches = record {
            fetched = shared.fetches.fetched;
            fetches = shared.fetches.fetches;
            last_fetched = shared.fetches.last_fetched;
          };
          records = tt;
          output = shared.output;
          memory = record {
            byte = shared.memory.byte;
            reserved = shared.memory.reserved;
            touched = shared.memory.touched;
            looks = shared.memory.looks;
          };
        };
      };
    }

pub leaves_with : (p q : Picture) (h : ℕ) (x : Active) (status : Status) (pc : ℕ)
    → (abandons : Abandons p q h x status pc) → Leaves p (with_map (p.mapped h) abandons.middle h) h x status pc
leaves_with p q h x status pc abandons = record {
  is_oldest = abandons.is_oldest;
  step = leave_with p abandons.middle h x.seq status pc abandons.leave;
  mapped = λ r above under. own_map (p.mapped h) abandons.middle h r;
}

-- ---- What leaves like this

here : (p : Picture) (parts : Parts) (h : ℕ) (a : HartState) → h < length parts.harts.items
    → a ≡ slice_index_or parts.harts.items h a → PartsAgree p parts → HartAgrees p h a
here p parts h a inside is agrees = subst (HartAgrees p h) (sym is) (agrees.harts h a inside)

-- One that ends or stops its hart, which is fetched where it was.
pub ends_leave : (p q : Picture) (parts : Parts) (h : ℕ) (x : Active) (status : Status) (a : HartState)
    → h < length parts.harts.items → a ≡ slice_index_or parts.harts.items h a → PartsAgree p parts
    → Ends p q h x status → Abandons p q h x status a.fetch_pc
ends_leave p q parts h x status a inside is agrees ends = record {
  is_oldest = ends.is_oldest;
  middle = ends.step.middle;
  leave =
      subst (λ n. IsLeave p ends.step.middle h x.seq status n) (sym (here p parts h a inside is agrees).fetch_pc)
      (subst (λ s. IsLeave p ends.step.middle h x.seq s (p.fetch_pc h)) (sym ends.stands) ends.step.leave);
  squash = ends.step.squash;
}

-- One that is fetched again, whose hart stands as it did.
pub refetch_leaves : (p q : Picture) (parts : Parts) (h : ℕ) (x : Active) (a : HartState)
    → h < length parts.harts.items → a ≡ slice_index_or parts.harts.items h a → PartsAgree p parts
    → Refetches p q h x → Abandons p q h x a.status x.pc
refetch_leaves p q parts h x a inside is agrees refetches = record {
  is_oldest = refetches.is_oldest;
  middle = refetches.step.middle;
  leave =
      subst (λ s. IsLeave p refetches.step.middle h x.seq s x.pc) (sym (here p parts h a inside is agrees).status)
      refetches.step.leave;
  squash = refetches.step.squash;
}
