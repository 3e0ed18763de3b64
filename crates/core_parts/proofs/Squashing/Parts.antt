-- A squash of one hart: the parts that it leaves agree with the picture after it.
use Rattle.std.specs.Prelude.{◌≡◌, ℕ, suc, ◌<◌, ◌≤◌, Bool, true, ◌||◌, nat_lt, nat_le, List, [], ◌∷◌, map, count_by}
use Rattle.std.specs.List.{AllByRecursion, list_any}
use Rattle.std.proofs.Common.{◌∙◌, refl, sym, ap, subst, inl, inr, arith}
use Rattle.std.proofs.{lemmas.Bool.cases_Bool, lemmas.Bool.Decides.nat_tests, lemmas.List.Sums.length-filter}
use Rattle.free_list.specs.Flags.{holds}
use Rattle.rename_map.specs.Maps.{lookup, committed_of}
use Rattle.retire_squash.specs.{declared.active.Active.Active, declared.active.Stage.Stage}
use Rattle.retire_squash.specs.declared.active.Stage.TheVariants as stage
use Rattle.smt_model.specs.{Basics.how_many, Kinds.destination, Picture.Picture}
use Rattle.smt_model.specs.Fates.{is, is_in_flight, op_of_fetched, Renamed}
use Rattle.smt_model.specs.Steps.{IsSquash, AreOwn, has_register, youngest, up_to, beyond, renamed_map, op_in}
use Rattle.smt_model.specs.Steps.{KeepsFetched, IsSameInstruction}
use Rattle.core_parts.specs.Agree.{IsActive, IsStage, HartAgrees, FreeAgrees}
use Rattle.core_parts.specs.Squash.{older, younger, has_phys, is_waiting, HaveOwn, mapped_by, IsSquashedBehind, Squashes}
use Rattle.core_parts.specs.Checkpoints.{AreCheckpoints, HasCheckpoints}
use Rattle.core_parts.specs.declared.hart.HartState.{HartState}
use Rattle.core_parts.proofs.{Agreement.Checkpoints.checkpoints_squashed, Agreement.Harts.active_kept}
use Rattle.core_parts.proofs.{Agreement.Harts.stage_flies}

-- ---- The members of the active list, and their numbers

pub numbers_older : (n : ℕ) (xs : List Active) → map (λ a. a.seq) (older n xs) ≡ up_to n (map (λ a. a.seq) xs)
numbers_older n [] = refl
numbers_older n (x ∷ xs) = elim (cases_Bool (nat_le x.seq n)) [
  | inl t ↦ rw (t, numbers_older n xs) refl
  | inr f ↦ rw (f, numbers_older n xs) refl
]

numbers_younger : (n : ℕ) (xs : List Active) → map (λ a. a.seq) (younger n xs) ≡ beyond n (map (λ a. a.seq) xs)
numbers_younger n [] = refl
numbers_younger n (x ∷ xs) = elim (cases_Bool (nat_lt n x.seq)) [
  | inl t ↦ rw (t, numbers_younger n xs) refl
  | inr f ↦ rw (f, numbers_younger n xs) refl
]

pub all_older : (P : Active → Type 0) (n : ℕ) (xs : List Active) → AllByRecursion P xs → AllByRecursion P (older n xs)
all_older P n [] all = tt
all_older P n (x ∷ xs) all = elim (cases_Bool (nat_le x.seq n)) [
  | inl t ↦ rw t (all.0, all_older P n xs all.1)
  | inr f ↦ rw f (all_older P n xs all.1)
]

all_younger : (P : Active → Type 0) (n : ℕ) (xs : List Active) → AllByRecursion P xs → AllByRecursion P (younger n xs)
all_younger P n [] all = tt
all_younger P n (x ∷ xs) all = elim (cases_Bool (nat_lt n x.seq)) [
  | inl t ↦ rw t (all.0, all_younger P n xs all.1)
  | inr f ↦ rw f (all_younger P n xs all.1)
]

any_registers : (p : Picture) (h x : ℕ) (xs : List Active) → AllByRecursion (IsActive p h) xs
    → list_any (has_phys x) xs ≡ list_any (has_register p x) (map (λ a. a.seq) xs)
any_registers p h x [] all = refl
any_registers p h x (a ∷ xs) all = rw (all.0.phys, any_registers p h x xs all.1) refl

-- ---- The registers that are given back

own_active : (p : Picture) (h : ℕ) (free : List Bool) (xs : List Active) → FreeAgrees p free
    → AllByRecursion (IsActive p h) xs
    → AreOwn p (map (λ a. a.seq) xs) → HaveOwn free xs
own_active p h free [] agrees all own = tt
own_active p h free (a ∷ xs) agrees all own = (
  λ x has.
      let mine = own.0 x (sym all.0.phys ∙ has) in
      record {
        in_range = mine.in_range;
        claimed = agrees x ∙ mine.claimed;
        alone = any_registers p h x xs all.1 ∙ mine.alone;
      },
  own_active p h free xs agrees all.1 own.1,
)

pub owns : (p : Picture) (h : ℕ) (free : List Bool) (x : HartState) → FreeAgrees p free → HartAgrees p h x
    → AreOwn p (p.flight h)
    → HaveOwn free x.active
owns p h free x agrees hart own =
    own_active p h free x.active agrees hart.actives (subst (AreOwn p) (sym hart.active) own)

pub free_squashed : (p q : Picture) (h n : ℕ) (free now : List Bool) (x : HartState) → FreeAgrees p free
    → HartAgrees p h x → IsSquash p q h n
    → ((r : ℕ) → holds now r ≡ (holds free r || list_any (has_phys r) (younger n x.active))) → FreeAgrees q now
free_squashed p q h n free now x agrees hart s given = λ r.
    let squash_behind : list_any (has_phys r) (younger n x.active)
    ≡ list_any (has_register p r) (beyond n (p.flight h)) =
    any_registers p h r (younger n x.active) (all_younger (IsActive p h) n x.active hart.actives)
    ∙ ap (list_any (has_register p r)) (numbers_younger n x.active ∙ ap (beyond n) hart.active) in
    given r ∙ (rw (agrees r, squash_behind) (sym (s.free r)))

-- ---- What is left

-- A stage waits where the fate does.
waits_same : (p : Picture) (s : ℕ) (at : Stage) → IsStage p s at → is_waiting at ≡ is (p.fate s) Renamed
waits_same p s stage.Renamed is = rw is refl
waits_same p s stage.Issued is = rw is refl
waits_same p s (stage.Completed outcome) is = rw is.0 refl

how_many_same : (p : Picture) (h : ℕ) (xs : List Active) → AllByRecursion (IsActive p h) xs
    → how_many (λ a. is_waiting a.stage) xs ≡ how_many (λ s. is (p.fate s) Renamed) (map (λ a. a.seq) xs)
how_many_same p h [] all = refl
how_many_same p h (a ∷ xs) all =
    let same = waits_same p a.seq a.stage all.0.stage in
    elim (cases_Bool (is_waiting a.stage)) [
      | inl t ↦ rw (t, sym same ∙ t) (ap suc (how_many_same p h xs all.1))
      | inr f ↦ rw (f, sym same ∙ f) (how_many_same p h xs all.1)
    ]

counts_same : (p : Picture) (h : ℕ) (xs : List Active) → AllByRecursion (IsActive p h) xs
    → count_by (λ a. is_waiting a.stage) xs ≡ how_many (λ s. is (p.fate s) Renamed) (map (λ a. a.seq) xs)
counts_same p h xs all = sym (length-filter (λ a. is_waiting a.stage) xs) ∙ how_many_same p h xs all

pub maps_same : (p : Picture) (h r before : ℕ) (xs : List Active) → AllByRecursion (IsActive p h) xs
    → mapped_by r xs before ≡ youngest p r (map (λ a. a.seq) xs) before
maps_same p h r before [] all = refl
maps_same p h r before (a ∷ xs) all =
    let rd : a.rd ≡ destination (op_in p a.seq) =
    all.0.rd ∙ ap destination (all.0.op ∙ sym (ap op_of_fetched all.0.fetched)) in
    let one : renamed_map a.rd a.phys r before ≡ renamed_map (destination (op_in p a.seq)) (p.phys a.seq) r before =
    ap (λ d. renamed_map d a.phys r before) rd
    ∙ ap (λ x. renamed_map (destination (op_in p a.seq)) x r before) all.0.phys in
    maps_same p h r (renamed_map a.rd a.phys r before) xs all.1 ∙ ap (youngest p r (map (λ b. b.seq) xs)) one

older_actives : (p q : Picture) (h n : ℕ) (xs : List Active) → KeepsFetched p q
    → ((t : ℕ) → is_in_flight (p.fate t) ≡ true → t ≤ n → IsSameInstruction p q t)
    → AllByRecursion (IsActive p h) xs → AllByRecursion (IsActive q h) (older n xs)
older_actives p q h n [] kept same all = tt
older_actives p q h n (x ∷ xs) kept same all = elim (cases_Bool (nat_le x.seq n)) [
  | inl t ↦
      let le : x.seq ≤ n = grind (arith, nat_tests) in
      rw t (
        active_kept p q h x kept (same x.seq (stage_flies p x.seq x.stage all.0.stage) le) all.0,
        older_actives p q h n xs kept same all.1,
      )
  | inr f ↦ rw f (older_actives p q h n xs kept same all.1)
]

module _ (p q : Picture) (h n : ℕ) (restored : Bool) (x y : HartState) (hart : HartAgrees p h x)
    (squashes : Squashes p q h n restored) (left : IsSquashedBehind n restored x y) where
  s : IsSquash p q h n
  s = squashes.step

  olders : AllByRecursion (IsActive p h) (older n x.active)
  olders = all_older (IsActive p h) n x.active hart.actives

  numbers : map (λ a. a.seq) (older n x.active) ≡ up_to n (p.flight h)
  numbers = numbers_older n x.active ∙ ap (up_to n) hart.active

  actives : AllByRecursion (IsActive q h) y.active
  actives = subst (AllByRecursion (IsActive q h)) (sym left.active)
      (older_actives p q h n x.active s.stays.shared.kept (λ t flies le. s.flights t flies (λ of_hart. le))
      hart.actives)

  icount : y.icount ≡ q.icount h
  icount = left.icount ∙ counts_same p h (older n x.active) olders ∙ ap (how_many (λ t. is (p.fate t) Renamed)) numbers
      ∙ sym s.icount

  made_anew : (r : ℕ) → 0 < r → r < 32
      → mapped_by r (older n x.active) (committed_of x.maps r) ≡ q.mapped h r
  made_anew r above under =
      ap (mapped_by r (older n x.active)) (hart.committed r above under)
      ∙ maps_same p h r (p.committed h r) (older n x.active) olders
      ∙ ap (λ xs. youngest p r xs (p.committed h r)) numbers
      ∙ sym (s.mapped r above under)

  speculative : (r : ℕ) → 0 < r → r < 32 → lookup y.maps r ≡ q.mapped h r
  speculative r above under = left.speculative r above under ∙ elim (cases_Bool restored) [
    | inl t ↦ rw t (hart.speculative r above under ∙ sym (squashes.map t r above under))
    | inr f ↦ rw f (made_anew r above under)
  ]

  pub checkpoints_left : HasCheckpoints x → HasCheckpoints y
  checkpoints_left kept =
      subst (λ xs. AreCheckpoints xs y.maps) (sym left.active)
      (checkpoints_squashed n x.active x.maps y.maps left.committed left.kept kept)

  pub hart_squashed : HartAgrees q h y
  hart_squashed = record {
    decode_latch = rw left.decode_latch (sym s.in_decode);
    decode_slots = rw left.decode_latch tt;
    rename_latch = rw left.rename_latch (sym s.in_rename);
    rename_slots = rw left.rename_latch tt;
    active = rw left.active (numbers ∙ sym s.flight);
    actives = actives;
    icount = icount;
    speculative = speculative;
    committed =
        λ r above under. rw left.committed (hart.committed r above under ∙ sym (s.stays.hart.committed r above under));
    fetch_pc = left.fetch_pc ∙ hart.fetch_pc ∙ sym s.stays.hart.fetch_pc;
    status = left.status ∙ hart.status ∙ sym s.stays.hart.status;
  }
