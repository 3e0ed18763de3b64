-- The checkpoints of the harts, and of one whose younger instructions are cut.
use Rattle.std.specs.Prelude.{◌≡◌, ℕ, ◌<◌, ◌≤◌, Bool, true, nat_le, List, [], ◌∷◌}
use Rattle.std.specs.Prelude.{filter, length, slice_index_or, slice_set}
use Rattle.std.specs.List.{AllByRecursion, list_any}
use Rattle.std.proofs.Common.{◌∙◌, refl, sym, ap, subst, inl, inr, arith}
use Rattle.std.proofs.{lemmas.Bool.cases_Bool, lemmas.Bool.cases_eq, lemmas.Bool.Decides.nat_tests}
use Rattle.std.proofs.{lemmas.List.length-set, lemmas.List.get_or-set_same, lemmas.List.get_or-set_other}
use Rattle.rename_map.specs.Maps.{Maps, Checkpoint, committed_of, released_after}
use Rattle.retire_squash.specs.declared.active.Active.{Active}
use Rattle.smt_model.specs.Steps.{renamed_map}
use Rattle.core_parts.specs.Checkpoints.{is_open_transfer, IsCheckpoint}
use Rattle.core_parts.specs.Checkpoints.{AreCheckpoints, HasCheckpoints, CheckpointsAgree}
use Rattle.core_parts.specs.Squash.{older, mapped_by}
use Rattle.core_parts.specs.declared.hart.HartState.{HartState}

-- ---- Lists

-- Of those that pass a test.
pub all_passed : {A : Type 0} → (P Q : A → Type 0) (test : A → Bool) → ((x : A) → test x ≡ true → P x → Q x)
    → (xs : List A) → AllByRecursion P xs → AllByRecursion Q (filter test xs)
all_passed P Q test step [] all = tt
all_passed P Q test step (x ∷ xs) all = elim (cases_Bool (test x)) [
  | inl t ↦ rw t (step x t all.0, all_passed P Q test step xs all.1)
  | inr f ↦ rw f (all_passed P Q test step xs all.1)
]

any_filtered : (test keep : Active → Bool) → ((x : Active) → test x ≡ true → keep x ≡ true)
    → (xs : List Active) → list_any test xs ≡ true → list_any test (filter keep xs) ≡ true
any_filtered test keep step [] any = any
any_filtered test keep step (x ∷ xs) any = elim (cases_Bool (test x)) [
  | inl t ↦ rw (step x t, t) refl
  | inr f0 ↦ elim (cases_Bool (keep x)) [
    | inl t ↦ rw (t, f0) (any_filtered test keep step xs (rw f0 at any))
    | inr f1 ↦ rw f1 (any_filtered test keep step xs (rw f0 at any))
  ]
]

-- ---- The harts

pub checkpoints_here : (harts : List HartState) (h : ℕ) (x : HartState) → h < length harts → x ≡ slice_index_or harts h x
    → CheckpointsAgree harts → HasCheckpoints x
checkpoints_here harts h x inside at agrees = subst HasCheckpoints (sym at) (agrees h x inside)

-- Hart h has changed.
pub checkpoints_set : (harts : List HartState) (h : ℕ) (y : HartState) → h < length harts → HasCheckpoints y
    → CheckpointsAgree harts → CheckpointsAgree (slice_set harts h y)
checkpoints_set harts h y inside is agrees = λ g d under. elim (cases_eq g h) [
  | inl same ↦ rw (same, get_or-set_same harts h y d inside) is
  | inr other ↦
      rw (get_or-set_other harts h g y d other) (agrees g d (omega (arith, length-set harts h y)))
]

pub checkpoints_same : (x y : HartState) → y.active ≡ x.active → y.maps ≡ x.maps → HasCheckpoints x → HasCheckpoints y
checkpoints_same x y active maps is = rw (active, maps) is

-- ---- The younger ones are cut

-- A map with other kept ones and another speculative one.
pub with_kept : (xs : List Active) (m o : Maps) (k : Checkpoint) → o.committed ≡ m.committed → IsCheckpoint xs m k
    → IsCheckpoint xs o k
with_kept xs m o k same is = record {
  value = λ r above under. is.value r above under
      ∙ ap (λ (c : List ℕ). mapped_by r (older k.seq xs) (slice_index_or c r 0)) (sym same);
  which = is.which;
}

older_twice : (s n r : ℕ) (xs : List Active) (before : ℕ) → s ≤ n
    → mapped_by r (older s (older n xs)) before ≡ mapped_by r (older s xs) before
older_twice s n r [] before within = refl
older_twice s n r (x ∷ xs) before within = elim (cases_Bool (nat_le x.seq s)) [
  | inl t ↦
      let stays : nat_le x.seq n ≡ true = grind (arith, nat_tests) in
      rw (t, stays) (rw t (older_twice s n r xs (renamed_map x.rd x.phys r before) within))
  | inr f ↦ elim (cases_Bool (nat_le x.seq n)) [
    | inl stays ↦ rw (f, stays) (rw f (older_twice s n r xs before within))
    | inr gone ↦ rw (f, gone) (older_twice s n r xs before within)
  ]
]

squashed_one : (n : ℕ) (xs : List Active) (m o : Maps) (k : Checkpoint) → o.committed ≡ m.committed → k.seq ≤ n
    → IsCheckpoint xs m k → IsCheckpoint (older n xs) o k
squashed_one n xs m o k same within is =
    let was = with_kept xs m o k same is in
    record {
      value = λ r low high. was.value r low high ∙ sym (older_twice k.seq n r xs (committed_of o r) within);
      which = any_filtered (is_open_transfer k.seq) (λ x. nat_le x.seq n) (λ x own. grind (arith, nat_tests)) xs is.which;
    }

pub checkpoints_squashed : (n : ℕ) (xs : List Active) (m o : Maps) → o.committed ≡ m.committed
    → o.kept ≡ released_after n m.kept → AreCheckpoints xs m → AreCheckpoints (older n xs) o
checkpoints_squashed n xs m o same kept all =
    subst (AllByRecursion (IsCheckpoint (older n xs) o)) (sym kept)
    (all_passed (IsCheckpoint xs m) (IsCheckpoint (older n xs) o) (λ k. nat_le k.seq n)
    (λ k passes is. squashed_one n xs m o k same (grind (arith, nat_tests)) is) m.kept all)
