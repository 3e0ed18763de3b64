-- What a squash leaves of one hart's parts, said of the parts alone; and when it finds the hart's
-- map restored.
use Rattle.std.specs.Prelude.{◌≡◌, ℕ, ◌<◌, Bool, true, false, nat_lt, nat_le, List, [], ◌∷◌, filter}
use Rattle.std.specs.Prelude.{count_by, Some, if◌then◌else◌}
use Rattle.numbers.specs.Sizes.{most_registers}
use Rattle.std.specs.List.{list_any}
use Rattle.free_list.specs.Flags.{holds}
use Rattle.rename_map.specs.Maps.{lookup, committed_of, released_after}
use Rattle.retire_squash.specs.{declared.active.Active.Active, declared.active.Stage.Stage}
use Rattle.retire_squash.specs.declared.active.Stage.TheVariants as stage
use Rattle.smt_model.specs.{Basics.same_number, Frames.SameMap, Picture.Picture}
use Rattle.smt_model.specs.Steps.{IsSquash, renamed_map}
use Rattle.core_parts.specs.declared.hart.HartState.{HartState}

-- Those that a squash behind number n keeps, and those that it cuts off.
abbrev pub older : ℕ → List Active → List Active
older n xs = filter (λ a. nat_le a.seq n) xs

abbrev pub younger : ℕ → List Active → List Active
younger n xs = filter (λ a. nat_lt n a.seq) xs

-- The instruction has physical register x.
abbrev pub has_phys : ℕ → Active → Bool
has_phys x a = same_number a.phys (Some x)

-- It waits in the issue queue.
abbrev pub is_waiting : Stage → Bool
is_waiting stage.Renamed = true
is_waiting stage.Issued = false
is_waiting (stage.Completed outcome) = false

-- Register x isn't free, and none of the rest has it.
pub record IsOwned (free : List Bool) (rest : List Active) (x : ℕ) : Type 0 where
  pub in_range : x < most_registers
  pub claimed : holds free x ≡ false
  pub alone : list_any (has_phys x) rest ≡ false

-- So it is with the register of each, if it has one: they can be given back one by one.
abbrev pub HaveOwn : List Bool → List Active → Type 0
HaveOwn free [] = Unit {0}
HaveOwn free (a ∷ rest) = ((x : ℕ) → a.phys ≡ Some x → IsOwned free rest x) × HaveOwn free rest

-- Where register r is after these, the oldest first, if it was at `before`.
abbrev pub mapped_by : ℕ → List Active → ℕ → ℕ
mapped_by r [] before = before
mapped_by r (a ∷ rest) before = mapped_by r rest (renamed_map a.rd a.phys r before)

-- What is left of a hart: empty latches, those up to number n, a counter and a map that fit these,
-- and the checkpoints of these. A map that was restored before stays as it was.
pub record IsSquashedBehind (n : ℕ) (restored : Bool) (old new : HartState) : Type 0 where
  pub decode_latch : new.decode_latch.items ≡ []
  pub rename_latch : new.rename_latch.items ≡ []
  pub active : new.active ≡ older n old.active
  pub icount : new.icount ≡ count_by (λ a. is_waiting a.stage) (older n old.active)
  pub speculative : (r : ℕ) → 0 < r → r < 32
      → lookup new.maps r
      ≡ (if restored then lookup old.maps r
      else mapped_by r (older n old.active) (committed_of old.maps r))
  pub committed : new.maps.committed ≡ old.maps.committed
  pub kept : new.maps.kept ≡ released_after n old.maps.kept
  pub fetch_pc : new.fetch_pc ≡ old.fetch_pc
  pub status : new.status ≡ old.status

-- A squash that finds the map as it is to leave it, where it was restored.
pub record Squashes (p q : Picture) (h n : ℕ) (restored : Bool) : Type 0 where
  pub step : IsSquash p q h n
  pub map : restored ≡ true → SameMap (q.mapped h) (p.mapped h)
