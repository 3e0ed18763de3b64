-- The checkpoints of a hart, after each step that changes its active list and its maps.
use Rattle.std.specs.Prelude.{◌≡◌, ℕ, ◌<◌, ◌==◌, ◌&&◌, not, Bool, true, false, nat_le, List, [], ◌∷◌, ◌++◌}
use Rattle.std.specs.Prelude.{map, filter, Some, None}
use Rattle.std.specs.List.{AllByRecursion, list_any}
use Rattle.std.proofs.Common.{◌∙◌, refl, sym, ap, subst, inl, inr, arith}
use Rattle.std.proofs.{lemmas.Bool.cases_Bool, lemmas.Bool.Decides.nat_tests}
use Rattle.std.proofs.lemmas.Option.{none-some, same_Some}
use Rattle.rename_map.specs.Maps.{Maps, Checkpoint, kept_under, lookup, committed_of, released}
use Rattle.rename_map.specs.Maps.{released_after}
use Rattle.rv_instr.specs.declared.op.Op.{Op}
use Rattle.retire_squash.specs.{Active.with_stage, Active.staged, declared.active.Active.Active}
use Rattle.retire_squash.specs.declared.active.Stage.{Stage}
use Rattle.smt_model.specs.Steps.{renamed_map}
use Rattle.core_parts.specs.Checkpoints.{is_control_transfer, is_completed, is_open_transfer, IsCheckpoint}
use Rattle.core_parts.specs.Checkpoints.{AreCheckpoints}
use Rattle.core_parts.specs.Squash.{older, mapped_by}
use Rattle.core_parts.proofs.Agreement.Checkpoints.{all_passed, with_kept}
use Rattle.core_steps.specs.Checkpoints.{KeepsWhere, released_by}
use Rattle.core_steps.proofs.Agreement.Accesses.{IsOpen}

-- ---- Lists

all_to : {A : Type 0} → (P Q : A → Type 0) → ((x : A) → P x → Q x) → (xs : List A) → AllByRecursion P xs
    → AllByRecursion Q xs
all_to P Q step [] all = tt
all_to P Q step (x ∷ xs) all = (step x all.0, all_to P Q step xs all.1)

all_front : {A : Type 0} → (P : A → Type 0) (xs ys : List A) → AllByRecursion P (xs ++ ys) → AllByRecursion P xs
all_front P [] ys all = tt
all_front P (x ∷ xs) ys all = (all.0, all_front P xs ys all.1)

all_rest : {A : Type 0} → (P : A → Type 0) (xs ys : List A) → AllByRecursion P (xs ++ ys) → AllByRecursion P ys
all_rest P [] ys all = all
all_rest P (x ∷ xs) ys all = all_rest P xs ys all.1

all_joined : {A : Type 0} → (P : A → Type 0) (xs : List A) (y : A) (ys : List A) → AllByRecursion P xs → P y
    → AllByRecursion P ys → AllByRecursion P (xs ++ y ∷ ys)
all_joined P [] y ys front here rest = (here, rest)
all_joined P (x ∷ xs) y ys front here rest = (front.0, all_joined P xs y ys front.1 here rest)

-- What holds of the one that passes.
any_holds : {A : Type 0} → (P : A → Type 0) (Q : Type 0) (test : A → Bool) → ((x : A) → P x → test x ≡ true → Q)
    → (xs : List A) → AllByRecursion P xs → list_any test xs ≡ true → Q
any_holds P Q test step [] all any = absurd (grind arith)
any_holds P Q test step (x ∷ xs) all any = elim (cases_Bool (test x)) [
  | inl t ↦ step x all.0 t
  | inr f ↦ any_holds P Q test step xs all.1 (rw f at any)
]

any_mapped : (test : Active → Bool) (f : Active → Active) → ((x : Active) → test x ≡ true → test (f x) ≡ true)
    → (xs : List Active) → list_any test xs ≡ true → list_any test (map f xs) ≡ true
any_mapped test f step [] any = any
any_mapped test f step (x ∷ xs) any = elim (cases_Bool (test x)) [
  | inl t ↦ rw (step x t) refl
  | inr f0 ↦ elim (cases_Bool (test (f x))) [
    | inl t ↦ rw t refl
    | inr f1 ↦ rw f1 (any_mapped test f step xs (rw f0 at any))
  ]
]

any_pushed : (test : Active → Bool) (xs : List Active) (a : Active) → list_any test xs ≡ true
    → list_any test (xs ++ a ∷ []) ≡ true
any_pushed test [] a any = absurd (grind arith)
any_pushed test (x ∷ xs) a any = elim (cases_Bool (test x)) [
  | inl t ↦ rw t refl
  | inr f ↦ rw f (any_pushed test xs a (rw f at any))
]

any_last : (test : Active → Bool) (xs : List Active) (a : Active) → test a ≡ true → list_any test (xs ++ a ∷ []) ≡ true
any_last test [] a is = rw is refl
any_last test (x ∷ xs) a is = elim (cases_Bool (test x)) [ inl t ↦ rw t refl | inr f ↦ rw f (any_last test xs a is) ]

-- ---- A stage changes

older_staged : (n : ℕ) (at : Stage) (r s : ℕ) (xs : List Active) (before : ℕ)
    → mapped_by r (older s (with_stage n at xs)) before ≡ mapped_by r (older s xs) before
older_staged n at r s [] before = refl
older_staged n at r s (x ∷ xs) before = elim (cases_Bool (x.seq == n)) [
  | inl own ↦ elim (cases_Bool (nat_le x.seq s)) [
    | inl t ↦ rw (own, t) (older_staged n at r s xs (renamed_map x.rd x.phys r before))
    | inr f ↦ rw (own, f) (older_staged n at r s xs before)
  ]
  | inr other ↦ elim (cases_Bool (nat_le x.seq s)) [
    | inl t ↦ rw (other, t) (older_staged n at r s xs (renamed_map x.rd x.phys r before))
    | inr f ↦ rw (other, f) (older_staged n at r s xs before)
  ]
]

-- Instruction n isn't number s, or it isn't completed by this.
still_open : (n : ℕ) (at : Stage) (s : ℕ) → ((s == n) ≡ true → is_completed at ≡ false) → (x : Active)
    → is_open_transfer s x ≡ true → is_open_transfer s (staged n at x) ≡ true
still_open n at s opens x is = elim (cases_Bool (x.seq == n)) [
  | inl own ↦
      let same : (s == n) ≡ true = grind (arith, nat_tests) in
      let not_yet = opens same in
      rw own (grind (arith, nat_tests))
  | inr other ↦ rw other is
]

staged_one : (n : ℕ) (at : Stage) (xs : List Active) (m : Maps) (k : Checkpoint)
    → ((k.seq == n) ≡ true → is_completed at ≡ false) → IsCheckpoint xs m k → IsCheckpoint (with_stage n at xs) m k
staged_one n at xs m k opens is = record {
  value = λ r above under. is.value r above under ∙ sym (older_staged n at r k.seq xs (committed_of m r));
  which = any_mapped (is_open_transfer k.seq) (staged n at) (still_open n at k.seq opens) xs is.which;
}

-- It is issued.
pub checkpoints_issued : (n : ℕ) (at : Stage) (xs : List Active) (m : Maps) → is_completed at ≡ false
    → AreCheckpoints xs m → AreCheckpoints (with_stage n at xs) m
checkpoints_issued n at xs m waits all =
    all_to (IsCheckpoint xs m) (IsCheckpoint (with_stage n at xs) m)
    (λ k is. staged_one n at xs m k (λ own. waits) is) m.kept all

checkpoints_done : (n : ℕ) (at : Stage) (xs : List Active) (m : Maps) → AreCheckpoints xs m
    → AreCheckpoints (with_stage n at xs) (record m { kept = released n m.kept })
checkpoints_done n at xs m all =
    all_passed (IsCheckpoint xs m) (IsCheckpoint (with_stage n at xs) (record m { kept = released n m.kept }))
    (λ k. not (k.seq == n))
    (λ k passes is. with_kept (with_stage n at xs) m (record m { kept = released n m.kept }) k refl
    (staged_one n at xs m k (λ own. absurd (grind arith)) is)) m.kept all

-- One that is no branch, JAL or JALR has none.
never_kept : (n : ℕ) (op : Op) (xs : List Active) (m : Maps) (k : Checkpoint) → is_control_transfer op ≡ false
    → AllByRecursion (IsOpen n op) xs → IsCheckpoint xs m k → (k.seq == n) ≡ true → ⊥
never_kept n op xs m k none all is own =
    any_holds (IsOpen n op) ⊥ (is_open_transfer k.seq)
    (λ x same there.
    let at : (x.seq == n) ≡ true = grind (arith, nat_tests) in
    let kind = ap is_control_transfer (same at).0 in
    absurd (grind arith)) xs all is.which

-- It completes, and its own is released.
pub checkpoints_completed : (n : ℕ) (op : Op) (at : Stage) (xs : List Active) (m : Maps)
    → AllByRecursion (IsOpen n op) xs → AreCheckpoints xs m
    → AreCheckpoints (with_stage n at xs) (record m { kept = released_by op n m.kept })
checkpoints_completed n op at xs m same all = elim (cases_Bool (is_control_transfer op)) [
  | inl t ↦ rw t (checkpoints_done n at xs m all)
  | inr f ↦ rw f
      (all_to (IsCheckpoint xs m) (IsCheckpoint (with_stage n at xs) m)
      (λ k is. staged_one n at xs m k (λ own. absurd (never_kept n op xs m k f same is own)) is) m.kept all)
]

-- ---- Maps are restored

pub checkpoints_released : (test : Checkpoint → Bool) (xs : List Active) (m o : Maps) → o.committed ≡ m.committed
    → o.kept ≡ filter test m.kept → AreCheckpoints xs m → AreCheckpoints xs o
checkpoints_released test xs m o same kept all =
    subst (AllByRecursion (IsCheckpoint xs o)) (sym kept)
    (all_passed (IsCheckpoint xs m) (IsCheckpoint xs o) test (λ k passes is. with_kept xs m o k same is) m.kept all)

-- The one of a number.
pub record IsFound (n : ℕ) (xs : List Active) (m : Maps) (k : Checkpoint) : Type 0 where
  pub number : k.seq ≡ n
  pub is : IsCheckpoint xs m k

found_in : (n : ℕ) (xs : List Active) (m : Maps) (ks : List Checkpoint) (k : Checkpoint)
    → AllByRecursion (IsCheckpoint xs m) ks → kept_under n ks ≡ Some k → IsFound n xs m k
found_in n xs m [] k all is = absurd (none-some k is)
found_in n xs m (x ∷ ks) k all is = elim (cases_Bool (x.seq == n)) [
  | inl t ↦
      let same : x ≡ k = same_Some x k (rw t at is) in
      let number : x.seq ≡ n = grind (arith, nat_tests) in
      record { number = ap (λ y. y.seq) (sym same) ∙ number; is = subst (IsCheckpoint xs m) same all.0 }
  | inr f ↦ found_in n xs m ks k all.1 (rw f at is)
]

pub checkpoint_found : (n : ℕ) (xs : List Active) (m : Maps) (k : Checkpoint) → AreCheckpoints xs m
    → kept_under n m.kept ≡ Some k → IsFound n xs m k
checkpoint_found n xs m k all is = found_in n xs m m.kept k all is

-- ---- One more

-- Its number is below this one, where those of all in flight are.
open_under : (n : ℕ) (xs : List Active) (m : Maps) (k : Checkpoint) → AllByRecursion (λ x. x.seq < n) xs
    → IsCheckpoint xs m k → k.seq < n
open_under n xs m k above is =
    any_holds (λ x. x.seq < n) (k.seq < n) (is_open_transfer k.seq) (λ x under own. grind (arith, nat_tests)) xs above
    is.which

none_in : (n : ℕ) (ks : List Checkpoint) → AllByRecursion (λ k. k.seq < n) ks → kept_under n ks ≡ None
none_in n [] all = refl
none_in n (k ∷ ks) all =
    let under = all.0 in
    let apart : (k.seq == n) ≡ false = grind (arith, nat_tests) in
    rw apart (none_in n ks all.1)

-- No map is kept of one that is younger than all in flight.
pub none_kept : (n : ℕ) (xs : List Active) (m : Maps) → AllByRecursion (λ x. x.seq < n) xs → AreCheckpoints xs m
    → kept_under n m.kept ≡ None
none_kept n xs m above all =
    none_in n m.kept
    (all_to (IsCheckpoint xs m) (λ k. k.seq < n) (λ k is. open_under n xs m k above is) m.kept all)

older_pushed : (s r : ℕ) (xs : List Active) (a : Active) (before : ℕ) → s < a.seq
    → mapped_by r (older s (xs ++ a ∷ [])) before ≡ mapped_by r (older s xs) before
older_pushed s r [] a before under =
    let gone : nat_le a.seq s ≡ false = grind (arith, nat_tests) in rw gone refl
older_pushed s r (x ∷ xs) a before under = elim (cases_Bool (nat_le x.seq s)) [
  | inl t ↦ rw t (older_pushed s r xs a (renamed_map x.rd x.phys r before) under)
  | inr f ↦ rw f (older_pushed s r xs a before under)
]

older_all : (r : ℕ) (xs : List Active) (a : Active) (before : ℕ) → AllByRecursion (λ x. x.seq < a.seq) xs
    → mapped_by r (older a.seq (xs ++ a ∷ [])) before ≡ renamed_map a.rd a.phys r (mapped_by r xs before)
older_all r [] a before above =
    let own : nat_le a.seq a.seq ≡ true = grind (arith, nat_tests) in rw own refl
older_all r (x ∷ xs) a before above =
    let under = above.0 in
    let stays : nat_le x.seq a.seq ≡ true = grind (arith, nat_tests) in
    rw stays (older_all r xs a (renamed_map x.rd x.phys r before) above.1)

pushed_one : (xs : List Active) (a : Active) (m o : Maps) (k : Checkpoint) → o.committed ≡ m.committed
    → AllByRecursion (λ x. x.seq < a.seq) xs → IsCheckpoint xs m k → IsCheckpoint (xs ++ a ∷ []) o k
pushed_one xs a m o k same above is =
    let was = with_kept xs m o k same is in
    record {
      value = λ r low high. was.value r low high
          ∙ sym (older_pushed k.seq r xs a (committed_of o r) (open_under a.seq xs m k above is));
      which = any_pushed (is_open_transfer k.seq) xs a is.which;
    }

-- What the map is after it is renamed.
abbrev pub IsMapOf : List Active → Active → Maps → Type 0
IsMapOf xs a m = (r : ℕ) → 0 < r → r < 32 → lookup m r ≡ renamed_map a.rd a.phys r (mapped_by r xs (committed_of m r))

new_one : (xs : List Active) (a : Active) (m : Maps) → AllByRecursion (λ x. x.seq < a.seq) xs → IsMapOf xs a m
    → (is_control_transfer a.op && not (is_completed a.stage)) ≡ true
    → IsCheckpoint (xs ++ a ∷ []) m (record { seq = a.seq; map = m.speculative })
new_one xs a m above is transfers = record {
  value = λ r low high. is r low high ∙ sym (older_all r xs a (committed_of m r) above);
  which = any_last (is_open_transfer a.seq) xs a
      (let own : (a.seq == a.seq) ≡ true = grind (arith, nat_tests) in rw own transfers);
}

kept_where : (b : Bool) (xs : List Active) (a : Active) (m o : Maps) → o.committed ≡ m.committed
    → AllByRecursion (λ x. x.seq < a.seq) xs → IsMapOf xs a o
    → (b ≡ true → (is_control_transfer a.op && not (is_completed a.stage)) ≡ true)
    → KeepsWhere b (record { seq = a.seq; map = o.speculative }) m.kept o.kept → AreCheckpoints xs m
    → AreCheckpoints (xs ++ a ∷ []) o
kept_where false xs a m o same above is transfers kept all =
    subst (AllByRecursion (IsCheckpoint (xs ++ a ∷ []) o)) (sym kept)
    (all_to (IsCheckpoint xs m) (IsCheckpoint (xs ++ a ∷ []) o) (λ k was. pushed_one xs a m o k same above was) m.kept
    all)
kept_where true xs a m o same above is transfers kept all =
    let P = IsCheckpoint (xs ++ a ∷ []) o in
    let olds = subst (AllByRecursion P) kept.was
    (all_to (IsCheckpoint xs m) P (λ k was. pushed_one xs a m o k same above was) m.kept all) in
    subst (AllByRecursion P) (sym kept.now)
    (all_joined P kept.front (record { seq = a.seq; map = o.speculative }) kept.rest (all_front P kept.front kept.rest olds)
    (new_one xs a o above is (transfers refl)) (all_rest P kept.front kept.rest olds))

pub checkpoints_pushed : (b : Bool) (xs : List Active) (a : Active) (m o : Maps) → o.committed ≡ m.committed
    → AllByRecursion (λ x. x.seq < a.seq) xs → IsMapOf xs a o
    → (b ≡ true → (is_control_transfer a.op && not (is_completed a.stage)) ≡ true)
    → KeepsWhere b (record { seq = a.seq; map = o.speculative }) m.kept o.kept → AreCheckpoints xs m
    → AreCheckpoints (xs ++ a ∷ []) o
checkpoints_pushed b xs a m o same above is transfers kept all = kept_where b xs a m o same above is transfers kept all

-- ---- The oldest leaves, completed

module _ (a : Active) (xs : List Active) (m : Maps) (done : is_completed a.stage ≡ true)
    (younger : AllByRecursion (λ x. a.seq < x.seq) xs) where
  -- A kept one is of a younger instruction.
  later : (k : Checkpoint) → IsCheckpoint (a ∷ xs) m k → list_any (is_open_transfer k.seq) xs ≡ true
  later k is = elim (cases_Bool (is_open_transfer k.seq a)) [
    | inl t ↦ absurd (grind arith)
    | inr f ↦ let any = is.which in rw f at any
  ]

  pub is_later : (k : Checkpoint) → IsCheckpoint (a ∷ xs) m k → a.seq < k.seq
  is_later k is =
      any_holds (λ x. a.seq < x.seq) (a.seq < k.seq) (is_open_transfer k.seq) (λ x under own. grind (arith, nat_tests)) xs
      younger (later k is)

  -- It commits.
  popped_one : (o : Maps) (k : Checkpoint)
      → ((r : ℕ) → 0 < r → r < 32 → committed_of o r ≡ renamed_map a.rd a.phys r (committed_of m r))
      → IsCheckpoint (a ∷ xs) m k → IsCheckpoint xs o k
  popped_one o k commits is =
      let under = is_later k is in
      let stays : nat_le a.seq k.seq ≡ true = grind (arith, nat_tests) in
      record {
        value = λ r low high. let was = is.value r low high in
            rw stays at was ∙ ap (mapped_by r (older k.seq xs)) (sym (commits r low high));
        which = later k is;
      }

  pub checkpoints_popped : (o : Maps) → o.kept ≡ m.kept
      → ((r : ℕ) → 0 < r → r < 32 → committed_of o r ≡ renamed_map a.rd a.phys r (committed_of m r))
      → AreCheckpoints (a ∷ xs) m → AreCheckpoints xs o
  checkpoints_popped o kept commits all =
      subst (AllByRecursion (IsCheckpoint xs o)) (sym kept)
      (all_to (IsCheckpoint (a ∷ xs) m) (IsCheckpoint xs o) (λ k is. popped_one o k commits is) m.kept all)

  -- It goes, with all the younger ones' maps.
  none_left : (ks : List Checkpoint) → AllByRecursion (λ k. a.seq < k.seq) ks → released_after a.seq ks ≡ []
  none_left [] all = refl
  none_left (k ∷ ks) all =
      let under = all.0 in
      let gone : nat_le k.seq a.seq ≡ false = grind (arith, nat_tests) in
      rw gone (none_left ks all.1)

  pub checkpoints_left : AreCheckpoints (a ∷ xs) m → released_after a.seq m.kept ≡ []
  checkpoints_left all =
      none_left m.kept (all_to (IsCheckpoint (a ∷ xs) m) (λ k. a.seq < k.seq) is_later m.kept all)
