-- The checkpoints of a hart whose oldest instruction leaves, completed: all are of younger ones.
use Rattle.std.specs.Prelude.{◌≡◌, ℕ, ◌<◌, true, List, [], ◌∷◌, map, drop}
use Rattle.std.specs.List.{AllByRecursion}
use Rattle.std.proofs.Common.{◌∙◌, refl, sym, ap, subst}
use Rattle.rename_map.specs.Maps.{Maps, committed_of, released_after}
use Rattle.retire_squash.specs.{declared.active.Active.Active, declared.active.Stage.Stage}
use Rattle.retire_squash.specs.declared.active.Stage.TheVariants as stage
use Rattle.smt_model.specs.{Fates.Completed, Kinds.destination, Picture.Picture, Steps.op_in, Steps.renamed_map}
use Rattle.core_parts.specs.{Agree.IsActive, Agree.IsStage, Checkpoints.AreCheckpoints, Checkpoints.IsCheckpoint}
use Rattle.core_parts.specs.{Checkpoints.is_completed}
use Rattle.core_steps.proofs.Agreement.{Checkpoints.checkpoints_popped, Checkpoints.checkpoints_left}
use Rattle.core_parts.proofs.Agreement.{Queues.active_op}

stage_done : (p : Picture) (s : ℕ) (at : Stage) → p.fate s ≡ Completed → IsStage p s at → is_completed at ≡ true
stage_done p s stage.Renamed done is = absurd cc
stage_done p s stage.Issued done is = absurd cc
stage_done p s (stage.Completed outcome) done is = refl

younger_all : (n : ℕ) (xs : List Active) → AllByRecursion (λ s. n < s) (map (λ a. a.seq) xs)
    → AllByRecursion (λ a. n < a.seq) xs
younger_all n [] all = tt
younger_all n (x ∷ xs) all = (all.0, younger_all n xs all.1)

-- The member of an active list that stands for an instruction has its register.
module _ (p : Picture) (h : ℕ) (a x : Active) (here : IsActive p h a) (is : IsActive p h x) (same : a.seq ≡ x.seq) where
  same_op : a.op ≡ x.op
  same_op = sym (active_op p h a here) ∙ (ap (op_in p) same ∙ active_op p h x is)

  same_rd : a.rd ≡ x.rd
  same_rd = here.rd ∙ (ap destination same_op ∙ sym is.rd)

  same_phys : a.phys ≡ x.phys
  same_phys = here.phys ∙ (ap p.phys same ∙ sym is.phys)

module _ (p : Picture) (h : ℕ) (x : Active) (is : IsActive p h x) (done : p.fate x.seq ≡ Completed) where
  -- It commits.
  pub popped : (xs : List Active) (rest : List ℕ) (m o : Maps) → map (λ a. a.seq) xs ≡ x.seq ∷ rest
      → AllByRecursion (IsActive p h) xs → AllByRecursion (λ s. x.seq < s) rest → o.kept ≡ m.kept
      → ((r : ℕ) → committed_of o r ≡ renamed_map x.rd x.phys r (committed_of m r))
      → AreCheckpoints xs m → AreCheckpoints (drop 1 xs) o
  popped [] rest m o numbers all younger kept commits checkpoints = absurd cc
  popped (a ∷ xs) rest m o numbers all younger kept commits checkpoints =
      let same : a.seq ≡ x.seq = cc in
      let others : map (λ b. b.seq) xs ≡ rest = cc in
      let above = younger_all a.seq xs
      (subst (AllByRecursion (λ s. a.seq < s)) (sym others)
      (subst (λ n. AllByRecursion (λ s. n < s) rest) (sym same) younger)) in
      checkpoints_popped a xs m (stage_done p a.seq a.stage (ap p.fate same ∙ done) all.0.stage) above o kept
      (λ r low high. commits r
      ∙ (ap (λ d. renamed_map d x.phys r (committed_of m r)) (sym (same_rd p h a x all.0 is same))
      ∙ ap (λ y. renamed_map a.rd y r (committed_of m r)) (sym (same_phys p h a x all.0 is same))))
      checkpoints

  -- It goes, and no map of a younger one is kept.
  pub none_after : (xs : List Active) (rest : List ℕ) (m : Maps) → map (λ a. a.seq) xs ≡ x.seq ∷ rest
      → AllByRecursion (IsActive p h) xs → AllByRecursion (λ s. x.seq < s) rest
      → AreCheckpoints xs m → released_after x.seq m.kept ≡ []
  none_after [] rest m numbers all younger checkpoints = absurd cc
  none_after (a ∷ xs) rest m numbers all younger checkpoints =
      let same : a.seq ≡ x.seq = cc in
      let others : map (λ b. b.seq) xs ≡ rest = cc in
      let above = younger_all a.seq xs
      (subst (AllByRecursion (λ s. a.seq < s)) (sym others)
      (subst (λ n. AllByRecursion (λ s. n < s) rest) (sym same) younger)) in
      subst (λ n. released_after n m.kept ≡ []) same
      (checkpoints_left a xs m (stage_done p a.seq a.stage (ap p.fate same ∙ done) all.0.stage) above checkpoints)

  pub left : (xs : List Active) (rest : List ℕ) (m : Maps) → map (λ a. a.seq) xs ≡ x.seq ∷ rest
      → AllByRecursion (IsActive p h) xs → AllByRecursion (λ s. x.seq < s) rest
      → AreCheckpoints xs m → AreCheckpoints (drop 1 xs) (record m { kept = released_after x.seq m.kept })
  left xs rest m numbers all younger checkpoints =
      subst (AllByRecursion (IsCheckpoint (drop 1 xs) (record m { kept = released_after x.seq m.kept })))
      (sym (none_after xs rest m numbers all younger checkpoints)) tt
