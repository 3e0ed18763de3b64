-- A mispredicted instruction whose map was kept: that is what the squash makes.
use Rattle.std.specs.Prelude.{◌≡◌, ℕ, ◌<◌, List, [], ◌∷◌, length, map, Option, Some, None, is_some}
use Rattle.std.specs.Prelude.{slice_index_or, slice_set}
use Rattle.std.specs.List.{AllByRecursion}
use Rattle.std.proofs.Common.{◌∙◌, refl, sym, ap, subst, inl, inr, arith}
use Rattle.std.specs.Vec.{with_item}
use Rattle.std.proofs.{lemmas.Bool.cases_eq, lemmas.List.set-get_or}
use Rattle.events.specs.declared.effect.Outcome.{Outcome}
use Rattle.rename_map.specs.Maps.{Checkpoint, kept_under, restored, restored_to, released_after}
use Rattle.retire_squash.specs.declared.active.Active.{Active}
use Rattle.smt_model.specs.{Fates.op_of_fetched, Kinds.destination, Picture.Picture}
use Rattle.smt_model.specs.Steps.{HasCompleted, IsMisprediction, op_in, renamed_map, up_to, youngest}
use Rattle.core_parts.specs.{Accesses.AccessesAgree, Agree.EachAgrees, Agree.IsActive, Agree.HartAgrees}
use Rattle.core_parts.specs.{Agree.PartsAgree}
use Rattle.core_parts.specs.Checkpoints.{CheckpointsAgree, HasCheckpoints}
use Rattle.core_steps.specs.Checkpoints.{map_behind, with_map_if}
use Rattle.core_parts.specs.Squash.{older, mapped_by}
use Rattle.core_parts.specs.{declared.hart.HartState.HartState, declared.parts.Parts.Parts}
use Rattle.core_steps.proofs.Agreement.Checkpoints.{checkpoint_found, checkpoints_released}
use Rattle.core_parts.proofs.Agreement.Checkpoints.{checkpoints_here}
use Rattle.core_parts.proofs.Agreement.Harts.{stage_flies}
use Rattle.core_steps.proofs.Steps.{OtherMap.parts_with}
use Rattle.core_parts.proofs.Squashing.{Parts.maps_same, Parts.numbers_older}
use Rattle.core_parts.proofs.Squashing.{Parts.all_older}

-- ---- The completion leaves what the flight makes of the map

module _ (p m : Picture) (h n k : ℕ) (o : Outcome) (pc : ℕ) (s : HasCompleted p m h n k o pc) where
  phys_kept : (x : Active) → IsActive p h x → m.phys x.seq ≡ p.phys x.seq
  phys_kept x is = elim (cases_eq x.seq n) [
    | inl own ↦ ap m.phys own ∙ s.phys ∙ ap p.phys (sym own)
    | inr other ↦ (s.flights x.seq (stage_flies p x.seq x.stage is.stage) other).phys
  ]

  op_kept : (x : Active) → IsActive p h x → op_in m x.seq ≡ op_in p x.seq
  op_kept x is = ap op_of_fetched (s.stays.shared.kept x.seq _ is.fetched) ∙ sym (ap op_of_fetched is.fetched)

  youngest_kept : (r before : ℕ) (xs : List Active) → AllByRecursion (IsActive p h) xs
      → youngest m r (map (λ a. a.seq) xs) before ≡ youngest p r (map (λ a. a.seq) xs) before
  youngest_kept r before [] all = refl
  youngest_kept r before (x ∷ xs) all =
      let one : renamed_map (destination (op_in m x.seq)) (m.phys x.seq) r before
      ≡ renamed_map (destination (op_in p x.seq)) (p.phys x.seq) r before =
      ap (λ i. renamed_map (destination i) (m.phys x.seq) r before) (op_kept x all.0)
      ∙ ap (λ y. renamed_map (destination (op_in p x.seq)) y r before) (phys_kept x all.0) in
      ap (youngest m r (map (λ a. a.seq) xs)) one
      ∙ youngest_kept r (renamed_map (destination (op_in p x.seq)) (p.phys x.seq) r before) xs all.1

  pub behind_kept : (x : HartState) → HartAgrees p h x → (r : ℕ) → 0 < r → r < 32
      → map_behind m h n r ≡ map_behind p h n r
  behind_kept x is r low high =
      let numbers : map (λ a. a.seq) (older n x.active) ≡ up_to n (p.flight h) =
      numbers_older n x.active ∙ ap (up_to n) is.active in
      ap (λ xs. youngest m r (up_to n xs) (m.committed h r)) s.stays.hart.flight
      ∙ ap (youngest m r (up_to n (p.flight h))) (s.stays.hart.committed r low high)
      ∙ ap (λ xs. youngest m r xs (p.committed h r)) (sym numbers)
      ∙ youngest_kept r (p.committed h r) (older n x.active) (all_older (IsActive p h) n x.active is.actives)
      ∙ ap (λ xs. youngest p r xs (p.committed h r)) numbers

-- Some hart is there.
some_hart : (harts : List HartState) (h : ℕ) → h < length harts → HartState
some_hart [] h inside = absurd (omega (arith, inside))
some_hart (x ∷ xs) h inside = x

pub squash_finds : (p q : Picture) (h n k : ℕ) (o : Outcome) (pc : ℕ) (old : Parts) → h < length old.harts.items
    → PartsAgree p old → (s : IsMisprediction p q h n k o pc) → (r : ℕ) → 0 < r → r < 32
    → q.mapped h r ≡ map_behind p h n r
squash_finds p q h n k o pc old inside agrees s r low high =
    let d = some_hart old.harts.items h inside in
    s.squash.mapped r low high
    ∙ behind_kept p s.middle h n k o pc s.complete (slice_index_or old.harts.items h d) (agrees.harts h d inside) r low
    high

-- ---- The map is restored

module _ (p : Picture) (h n : ℕ) (x : HartState) (old new : Parts) (inside : h < length old.harts.items)
    (at : x ≡ slice_index_or old.harts.items h x) (agrees : PartsAgree p old)
    (is : new ≡ record old { harts = with_item old.harts h (record x { maps = restored n x.maps }) }) where
  here : HartAgrees p h x
  here = subst (HartAgrees p h) (sym at) (agrees.harts h x inside)

  has : HasCheckpoints x
  has = checkpoints_here old.harts.items h x inside at agrees.checkpoints

  -- What was kept is the map that a squash makes.
  kept_map : (k : Checkpoint) → kept_under n x.maps.kept ≡ Some k → (r : ℕ) → 0 < r → r < 32
      → slice_index_or k.map r 0 ≡ map_behind p h n r
  kept_map k found r low high =
      let one = checkpoint_found n x.active x.maps k has found in
      one.is.value r low high
      ∙ ap (λ s. mapped_by r (older s x.active) (slice_index_or x.maps.committed r 0)) one.number
      ∙ ap (mapped_by r (older n x.active)) (here.committed r low high)
      ∙ maps_same p h r (p.committed h r) (older n x.active) (all_older (IsActive p h) n x.active here.actives)
      ∙ ap (λ xs. youngest p r xs (p.committed h r)) (numbers_older n x.active ∙ ap (up_to n) here.active)

  restored_by : (o : Option Checkpoint) → kept_under n x.maps.kept ≡ o
      → new ≡ record old { harts = with_item old.harts h (record x { maps = restored_to o n x.maps }) }
      → PartsAgree (with_map_if (is_some o) (map_behind p h n) p h) new
  restored_by None found now =
      let same : slice_set old.harts.items h x ≡ old.harts.items =
      ap (slice_set old.harts.items h) at ∙ set-get_or old.harts.items h x in
      rw now (record {
        harts = subst (EachAgrees p) (sym same) agrees.harts;
        checkpoints = subst CheckpointsAgree (sym same) agrees.checkpoints;
        queue = agrees.queue;
        free = agrees.free;
        registers = agrees.registers;
        values = agrees.values;
        actors = agrees.actors;
        jobs = agrees.jobs;
        accesses = subst (λ xs. AccessesAgree p.touched xs old.accesses) (sym same) agrees.accesses;
        memory = agrees.memory;
      })
  restored_by (Some k) found now =
      let m = restored_to (Some k) n x.maps in
      parts_with (map_behind p h n) p h x m old new inside at now refl (kept_map k found)
      (checkpoints_released _ x.active (record x.maps { kept = released_after n x.maps.kept }) m refl refl
      (checkpoints_released _ x.active x.maps (record x.maps { kept = released_after n x.maps.kept }) refl refl has))
      agrees

  pub parts_restored : PartsAgree (with_map_if (is_some (kept_under n x.maps.kept)) (map_behind p h n) p h) new
  parts_restored = restored_by (kept_under n x.maps.kept) refl is
