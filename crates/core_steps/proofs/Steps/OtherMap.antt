-- A picture with another map of one hart: what steps lead from it and to it, and what parts agree with it. So stands a
-- hart whose map was restored or is to be made anew, until its younger instructions are squashed.
use Rattle.std.specs.Prelude.{◌≡◌, ◌≢◌, ℕ, ◌<◌, ◌==◌, Bool, true, false, List, [], ◌∷◌, length, slice_index_or}
use Rattle.std.specs.Vec.{with_item}
use Rattle.std.proofs.Common.{◌∙◌, refl, sym, ap, arith}
use Rattle.std.proofs.lemmas.Bool.Decides.{nat_tests}
use Rattle.events.specs.declared.effect.Outcome.{Outcome}
use Rattle.rename_map.specs.Maps.{Maps, lookup}
use Rattle.smt_model.specs.{Kinds.destination, Picture.Picture}
use Rattle.smt_model.specs.Steps.{HasCompleted, IsSquash, IsSameHart, IsSameInstruction, KeepsReadings, AreOwn, youngest}
use Rattle.smt_model.specs.Steps.{up_to, renamed_map, op_in}
use Rattle.core_parts.specs.Agree.{HartAgrees, PartsAgree}
use Rattle.core_steps.specs.Checkpoints.{with_map, with_map_if}
use Rattle.core_parts.specs.Checkpoints.{HasCheckpoints}
use Rattle.core_parts.specs.Squash.{Squashes}
use Rattle.core_parts.specs.{declared.hart.HartState.HartState, declared.parts.Parts.Parts}
use Rattle.core_parts.proofs.Agreement.Harts.{slots_kept, actives_kept, hart_kept, each_set}
use Rattle.core_parts.proofs.{Agreement.Checkpoints.checkpoints_set, Agreement.Queues.accesses_still}
use Rattle.core_parts.proofs.Agreement.Shared.{queue_kept, jobs_kept}

pub own_map : (row : ℕ → ℕ) (m : Picture) (h r : ℕ) → (with_map row m h).mapped h r ≡ row r
own_map row m h r = let here : (h == h) ≡ true = grind (arith, nat_tests) in rw here refl

pub other_map : (row : ℕ → ℕ) (m : Picture) (h g r : ℕ) → g ≢ h → (with_map row m h).mapped g r ≡ m.mapped g r
other_map row m h g r other = let apart : (g == h) ≡ false = grind (arith, nat_tests) in rw apart refl

-- ---- Before a squash, which makes the map anew

own_with : (row : ℕ → ℕ) (m : Picture) (h : ℕ) (xs : List ℕ) → AreOwn m xs → AreOwn (with_map row m h) xs
own_with row m h [] own = tt
own_with row m h (s ∷ rest) own = (
  λ x named. let is = own.0 x named in record { in_range = is.in_range; claimed = is.claimed; alone = is.alone },
  own_with row m h rest own.1,
)

youngest_with : (row : ℕ → ℕ) (m : Picture) (h r : ℕ) (xs : List ℕ) (otherwise : ℕ)
    → youngest (with_map row m h) r xs otherwise ≡ youngest m r xs otherwise
youngest_with row m h r [] otherwise = refl
youngest_with row m h r (s ∷ rest) otherwise =
    youngest_with row m h r rest (renamed_map (destination (op_in m s)) (m.phys s) r otherwise)

same_before : (row : ℕ → ℕ) (m q : Picture) (h g : ℕ) → g ≢ h → IsSameHart m q g → IsSameHart (with_map row m h) q g
same_before row m q h g other same = record {
  in_decode = same.in_decode;
  in_rename = same.in_rename;
  flight = same.flight;
  icount = same.icount;
  mapped = λ r above under. same.mapped r above under ∙ sym (other_map row m h g r other);
  committed = same.committed;
  fetch_pc = same.fetch_pc;
  status = same.status;
}

reads_before : (row : ℕ → ℕ) (m q : Picture) (h : ℕ) → KeepsReadings m q → KeepsReadings (with_map row m h) q
reads_before row m q h readings = λ s waits still.
    let both = readings s waits still in
    (record { seen = both.0.seen; reads = both.0.reads }, record { seen = both.1.seen; reads = both.1.reads })

pub squash_with : (row : ℕ → ℕ) (m q : Picture) (h n : ℕ) → IsSquash m q h n → IsSquash (with_map row m h) q h n
squash_with row m q h n squash =
    let own = squash.stays.hart in
    let shared = squash.stays.shared in
    record {
      own = own_with row m h (m.flight h) squash.own;
      in_decode = squash.in_decode;
      in_rename = squash.in_rename;
      flight = squash.flight;
      icount = squash.icount;
      mapped = λ r above under.
          squash.mapped r above under ∙ sym (youngest_with row m h r (up_to n (m.flight h)) (m.committed h r));
      queue = squash.queue;
      free = squash.free;
      flights = λ t flies upto. let same =
          squash.flights t flies upto in record { fate = same.fate; phys = same.phys; completion = same.completion };
      stays = record {
        hart = record {
          in_decode = tt;
          in_rename = tt;
          flight = tt;
          icount = tt;
          mapped = tt;
          committed = own.committed;
          fetch_pc = own.fetch_pc;
          status = own.status;
        };
        others = λ g other. same_before row m q h g other (squash.stays.others g other);
        shared = record {
          kept = shared.kept;
          operands = shared.operands;
          queue = tt;
          free = tt;
          values = shared.values;
          readings = reads_before row m q h shared.readings;
          job = shared.job;
          fetches = record {
            fetched = shared.fetches.fetched;
            fetches = shared.fetches.fetches;
            last_fetched = shared.fetches.last_fetched;
          };
          records = shared.records;
          output = shared.output;
          memory = record {
            byte = shared.memory.byte;
            reserved = shared.memory.reserved;
            touched = shared.memory.touched;
            looks = shared.memory.looks;
          };
        };
      };
    }

-- A squash that makes the map anew.
pub squashes_anew : (p q : Picture) (h n : ℕ) → IsSquash p q h n → Squashes p q h n false
squashes_anew p q h n step = record { step = step; map = λ never. absurd (grind arith) }

-- One that finds it, or makes it anew.
pub squashes_if : (restored : Bool) (row : ℕ → ℕ) (m q : Picture) (h n : ℕ)
    → ((r : ℕ) → 0 < r → r < 32 → q.mapped h r ≡ row r) → IsSquash m q h n
    → Squashes (with_map_if restored row m h) q h n restored
squashes_if true row m q h n same step = record {
  step = squash_with row m q h n step;
  map = λ is r low high. same r low high ∙ sym (own_map row m h r);
}
squashes_if false row m q h n same step = squashes_anew m q h n step

-- ---- Through a completion, which leaves the map

same_through : (row : ℕ → ℕ) (p m : Picture) (h g : ℕ) → g ≢ h → IsSameHart p m g
    → IsSameHart (with_map row p h) (with_map row m h) g
same_through row p m h g other same = record {
  in_decode = same.in_decode;
  in_rename = same.in_rename;
  flight = same.flight;
  icount = same.icount;
  mapped = λ r above under.
      other_map row m h g r other ∙ same.mapped r above under ∙ sym (other_map row p h g r other);
  committed = same.committed;
  fetch_pc = same.fetch_pc;
  status = same.status;
}

instruction_through : (row : ℕ → ℕ) (p m : Picture) (h t : ℕ) → IsSameInstruction p m t
    → IsSameInstruction (with_map row p h) (with_map row m h) t
instruction_through row p m h t same = record { fate = same.fate; phys = same.phys; completion = same.completion }

completes_with : (row : ℕ → ℕ) (p m : Picture) (h n k : ℕ) (o : Outcome) (pc : ℕ) → HasCompleted p m h n k o pc
    → HasCompleted (with_map row p h) (with_map row m h) h n k o pc
completes_with row p m h n k o pc s =
    let own = s.stays.hart in
    let shared = s.stays.shared in
    record {
      of_hart = s.of_hart;
      lent = s.lent;
      waited = s.waited;
      untouched = s.untouched;
      fate = s.fate;
      phys = s.phys;
      completion = s.completion;
      fetch_pc = s.fetch_pc;
      no_value = s.no_value;
      values = s.values;
      readings = s.readings;
      job = s.job;
      flights = λ t flies other. instruction_through row p m h t (s.flights t flies other);
      stays = record {
        hart = record {
          in_decode = own.in_decode;
          in_rename = own.in_rename;
          flight = own.flight;
          icount = own.icount;
          mapped = λ r above under. own_map row m h r ∙ sym (own_map row p h r);
          committed = own.committed;
          fetch_pc = tt;
          status = own.status;
        };
        others = λ g other. same_through row p m h g other (s.stays.others g other);
        shared = record {
          kept = shared.kept;
          operands = shared.operands;
          queue = shared.queue;
          free = shared.free;
          values = tt;
          readings = tt;
          job = tt;
          fetches = record {
            fetched = shared.fetches.fetched;
            fetches = shared.fetches.fetches;
            last_fetched = shared.fetches.last_fetched;
          };
          records = shared.records;
          output = shared.output;
          memory = record {
            byte = shared.memory.byte;
            reserved = shared.memory.reserved;
            touched = shared.memory.touched;
            looks = shared.memory.looks;
          };
        };
      };
    }

pub completes_if : (restored : Bool) (row : ℕ → ℕ) (p m : Picture) (h n k : ℕ) (o : Outcome) (pc : ℕ)
    → HasCompleted p m h n k o pc
    → HasCompleted (with_map_if restored row p h) (with_map_if restored row m h) h n k o pc
completes_if true row p m h n k o pc s = completes_with row p m h n k o pc s
completes_if false row p m h n k o pc s = s

pub phys_if : (restored : Bool) (row : ℕ → ℕ) (p : Picture) (h s : ℕ)
    → p.phys s ≡ (with_map_if restored row p h).phys s
phys_if true row p h s = refl
phys_if false row p h s = refl

pub op_if : (restored : Bool) (row : ℕ → ℕ) (p : Picture) (h s : ℕ)
    → op_in p s ≡ op_in (with_map_if restored row p h) s
op_if true row p h s = refl
op_if false row p h s = refl

-- ---- The parts with this map

hart_with : (row : ℕ → ℕ) (p : Picture) (h : ℕ) (x : HartState) (m : Maps) → m.committed ≡ x.maps.committed
    → ((r : ℕ) → 0 < r → r < 32 → lookup m r ≡ row r) → HartAgrees p h x
    → HartAgrees (with_map row p h) h (record x { maps = m })
hart_with row p h x m same is_row is =
    let q = with_map row p h in
    record {
      decode_latch = is.decode_latch;
      decode_slots = slots_kept p q h x.decode_latch.items (λ s f at. at) is.decode_slots;
      rename_latch = is.rename_latch;
      rename_slots = slots_kept p q h x.rename_latch.items (λ s f at. at) is.rename_slots;
      active = is.active;
      actives = actives_kept p q h x.active (λ s f at. at)
          (λ t flies mine. record { fate = refl; phys = refl; completion = refl }) is.actives;
      icount = is.icount;
      speculative = λ r above under. is_row r above under ∙ sym (own_map row p h r);
      committed = λ r above under. ap (λ (c : List ℕ). slice_index_or c r 0) same ∙ is.committed r above under;
      fetch_pc = is.fetch_pc;
      status = is.status;
    }

other_with : (row : ℕ → ℕ) (p : Picture) (h g : ℕ) → g ≢ h → (x : HartState) → HartAgrees p g x
    → HartAgrees (with_map row p h) g x
other_with row p h g other x is =
    hart_kept p (with_map row p h) g x
    (record {
      in_decode = refl;
      in_rename = refl;
      flight = refl;
      icount = refl;
      mapped = λ r above under. other_map row p h g r other;
      committed = λ r above under. refl;
      fetch_pc = refl;
      status = refl;
    }) (λ s f at. at) (λ t flies mine. record { fate = refl; phys = refl; completion = refl }) is

pub parts_with : (row : ℕ → ℕ) (p : Picture) (h : ℕ) (x : HartState) (m : Maps) (old new : Parts)
    → h < length old.harts.items → x ≡ slice_index_or old.harts.items h x
    → new ≡ record old { harts = with_item old.harts h (record x { maps = m }) }
    → m.committed ≡ x.maps.committed → ((r : ℕ) → 0 < r → r < 32 → lookup m r ≡ row r)
    → HasCheckpoints (record x { maps = m }) → PartsAgree p old → PartsAgree (with_map row p h) new
parts_with row p h x m old new inside at is same is_row kept agrees =
    let q = with_map row p h in
    let y : HartState = record x { maps = m } in
    rw is (record {
      harts = each_set p q old.harts.items h x y inside at (hart_with row p h x m same is_row)
          (λ g other z. other_with row p h g other z) agrees.harts;
      checkpoints = checkpoints_set old.harts.items h y inside kept agrees.checkpoints;
      queue = queue_kept p q old.queue (λ s f found. found)
          (λ t flies. record { fate = refl; phys = refl; completion = refl })
          (λ s waits still. (record { seen = refl; reads = refl }, record { seen = refl; reads = refl })) refl
          agrees.queue;
      free = agrees.free;
      registers = agrees.registers;
      values = agrees.values;
      actors = agrees.actors;
      jobs = jobs_kept p q old.jobs (λ s f found. found) (λ k. refl) (λ k s was now. (refl, refl)) agrees.jobs;
      accesses = accesses_still p.touched old.harts.items h x y old.accesses inside at refl agrees.accesses;
      memory = record { byte = agrees.memory.byte; reserved = agrees.memory.reserved };
    })
