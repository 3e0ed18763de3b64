-- The entries of a slab by rising number: what one more, one less, a wake and a squash make of the list.
use Rattle.std.proofs.Common.{◌≡◌, ◌≢◌, ◌⊎◌, ℕ, zero, suc, ◌<◌, ◌==◌, ◌||◌, ltb, Bool, true, false, cond, List, [], ◌∷◌}
use Rattle.std.proofs.Common.{map, filter, length, count_by, Option, Some, None, is_some, refl, sym, ap, ◌∙◌, subst, inl, inr, arith}
use Rattle.std.specs.Prelude.{slice_index_or}
use Rattle.std.specs.{Option.option_map}
use Rattle.std.proofs.lemmas.Bool.{cases_eq, false≢true}
use Rattle.std.proofs.lemmas.Bool.Decides.{nat_tests}
use Rattle.std.proofs.lemmas.List.Sums.{sum_by-cons}
use Rattle.slab.specs.Slab.{Slab, get, Updates}
use Rattle.issue_queue.specs.{declared.entry.Entry.Entry, Entry.woken_entry, Lists.Stands}
use Rattle.issue_queue.specs.Queue.{AreEntriesRising, has_number, inserted_entry, is_other}
use Rattle.issue_queue.specs.Parts.{NoneHasNumber, IsAdded, AreWoken, AreKept, kept}
use Rattle.issue_queue.specs.{SlabQueue.by_number}
use Rattle.issue_queue.proofs.Lists.{at_all, Stands-filter, Stands-filtered}
use Rattle.issue_queue.proofs.Rising.{IsRising-filter, IsRising-woken, IsRising-inserted}

-- ---- What stands among entries with one more

pub Stands-inserted : (e y : Entry) (xs : List Entry) → Stands y (inserted_entry e xs) → (e ≡ y) ⊎ Stands y xs
Stands-inserted e y [] (inl same) = inl same
Stands-inserted e y [] (inr there) = absurd there
Stands-inserted e y (x ∷ xs) there = by_test (ltb e.seq x.seq) (Stands-inserted e y xs) there
  where
    by_test : (b : Bool) → (Stands y (inserted_entry e xs) → (e ≡ y) ⊎ Stands y xs)
        → Stands y (cond b (e ∷ x ∷ xs) (x ∷ inserted_entry e xs)) → (e ≡ y) ⊎ Stands y (x ∷ xs)
    by_test true behind (inl same) = inl same
    by_test true behind (inr later) = inr later
    by_test false behind (inl same) = inr (inl same)
    by_test false behind (inr later) = elim (behind later) [ inl same ↦ inl same | inr stays ↦ inr (inr stays) ]

pub inserted_stands : (e : Entry) (xs : List Entry) → Stands e (inserted_entry e xs)
inserted_stands e [] = inl refl
inserted_stands e (x ∷ xs) =
    elim (ltb e.seq x.seq) as (λ b. Stands e (cond b (e ∷ x ∷ xs) (x ∷ inserted_entry e xs)))
    [ true ↦ inl refl | false ↦ inr (inserted_stands e xs) ]

pub others_stand : (e y : Entry) (xs : List Entry) → Stands y xs → Stands y (inserted_entry e xs)
others_stand e y [] there = absurd there
others_stand e y (x ∷ xs) there = by_test (ltb e.seq x.seq) (others_stand e y xs) there
  where
    by_test : (b : Bool) → (Stands y xs → Stands y (inserted_entry e xs)) → Stands y (x ∷ xs)
        → Stands y (cond b (e ∷ x ∷ xs) (x ∷ inserted_entry e xs))
    by_test true behind there = inr there
    by_test false behind (inl same) = inl same
    by_test false behind (inr later) = inr (behind later)

pub length-inserted : (e : Entry) (xs : List Entry) → length (inserted_entry e xs) ≡ suc (length xs)
length-inserted e [] = refl
length-inserted e (x ∷ xs) =
    elim (ltb e.seq x.seq) as (λ b. length (cond b (e ∷ x ∷ xs) (x ∷ inserted_entry e xs)) ≡ suc (length (x ∷ xs)))
    [ true ↦ refl | false ↦ ap suc (length-inserted e xs) ]

-- ---- A rising list is known by what stands in it

pub above : (x y : Entry) (xs : List Entry) → AreEntriesRising (x ∷ xs) → Stands y xs → x.seq < y.seq
above x y xs rising there = at_all (λ z. x.seq < z.seq) xs y rising.0 there

pub same_members : (xs ys : List Entry) → AreEntriesRising xs → AreEntriesRising ys
    → ((e : Entry) → Stands e xs → Stands e ys) → ((e : Entry) → Stands e ys → Stands e xs) → xs ≡ ys
same_members [] [] rising_x rising_y there back = refl
same_members [] (y ∷ ys) rising_x rising_y there back = absurd (back y (inl refl))
same_members (x ∷ xs) [] rising_x rising_y there back = absurd (there x (inl refl))
same_members (x ∷ xs) (y ∷ ys) rising_x rising_y there back =
    let same : x ≡ y =
    elim (there x (inl refl)) [
      | inl it ↦ sym it
      | inr later ↦
          elim (back y (inl refl)) [
            | inl it ↦ it
            | inr other ↦
                absurd (omega (arith, above y x ys rising_y later, above x y xs rising_x other))
          ]
    ] in
    let tails : xs ≡ ys =
    same_members xs ys rising_x.1 rising_y.1
    (λ e stands. elim (there e (inr stands)) [
      | inl it ↦
          let low : x.seq < e.seq = above x e xs rising_x stands in
          let level : x.seq ≡ e.seq = ap (λ (z : Entry). z.seq) (same ∙ it) in
          absurd (omega arith)
      | inr later ↦ later
    ])
    (λ e stands. elim (back e (inr stands)) [
      | inl it ↦
          let low : y.seq < e.seq = above y e ys rising_y stands in
          let level : y.seq ≡ e.seq = ap (λ (z : Entry). z.seq) (sym same ∙ it) in
          absurd (omega arith)
      | inr later ↦ later
    ]) in
    λ i. same i ∷ tails i

-- ---- The entries of slots

pub from_slots : (e : Entry) (slots : List (Option Entry)) → Stands e (by_number slots)
    → (k : ℕ) × (slice_index_or slots k None ≡ Some e)
from_slots e [] there = absurd there
from_slots e (None ∷ slots) there = let l = from_slots e slots there in (suc l.0, l.1)
from_slots e (Some f ∷ slots) there =
    elim (Stands-inserted f e (by_number slots) there) [
      | inl same ↦ (0, ap Some same)
      | inr later ↦ let l = from_slots e slots later in (suc l.0, l.1)
    ]

pub in_slots : (e : Entry) (slots : List (Option Entry)) (k : ℕ) → slice_index_or slots k None ≡ Some e
    → Stands e (by_number slots)
in_slots e [] zero is = absurd cc
in_slots e [] (suc k) is = absurd cc
in_slots e (None ∷ slots) zero is = absurd cc
in_slots e (Some f ∷ slots) zero is =
    let same : f ≡ e = cc in
    subst (λ z. Stands z (inserted_entry f (by_number slots))) same (inserted_stands f (by_number slots))
in_slots e (None ∷ slots) (suc k) is = in_slots e slots k is
in_slots e (Some f ∷ slots) (suc k) is = others_stand f e (by_number slots) (in_slots e slots k is)

pub none_has : (n : ℕ) (xs : List Entry) → ((y : Entry) → Stands y xs → y.seq ≢ n) → has_number n xs ≡ false
none_has n [] apart = refl
none_has n (x ∷ xs) apart =
    let other = apart x (inl refl) in
    let here : (x.seq == n) ≡ false = grind (arith, nat_tests, other) in
    rw here (none_has n xs (λ y there. apart y (inr there)))

pub one_has : (n : ℕ) (e : Entry) (xs : List Entry) → Stands e xs → e.seq ≡ n → has_number n xs ≡ true
one_has n e [] there is = absurd there
one_has n e (x ∷ xs) (inl same) is =
    let level : x.seq ≡ n = ap (λ (z : Entry). z.seq) same ∙ is in
    let here : (x.seq == n) ≡ true = grind (arith, nat_tests, level) in
    rw here refl
one_has n e (x ∷ xs) (inr later) is =
    elim (x.seq == n) as (λ b. (b || has_number n xs) ≡ true) [ true ↦ refl | false ↦ one_has n e xs later is ]

pub none_with : (n : ℕ) (xs : List Entry) → has_number n xs ≡ false → (y : Entry) → Stands y xs → y.seq ≢ n
none_with n xs none y there is = false≢true (sym none ∙ one_has n y xs there is)

rising_slots : (slots : List (Option Entry)) → ((j k : ℕ) (e f : Entry) → slice_index_or slots j None ≡ Some e
    → slice_index_or slots k None ≡ Some f → e.seq ≡ f.seq → j ≡ k) → AreEntriesRising (by_number slots)
rising_slots [] apart = tt
rising_slots (None ∷ slots) apart =
    rising_slots slots (λ j k e f at_j at_k same. let is : suc j ≡ suc k = apart (suc j) (suc k) e f at_j at_k same in omega arith)
rising_slots (Some x ∷ slots) apart =
    IsRising-inserted x (by_number slots)
    (rising_slots slots (λ j k e f at_j at_k same. let is : suc j ≡ suc k = apart (suc j) (suc k) e f at_j at_k same in omega arith))
    (none_has x.seq (by_number slots) (λ y there is.
    let at = from_slots y slots there in
    let same : 0 ≡ suc at.0 = apart 0 (suc at.0) x y refl at.1 (sym is) in
    omega arith))

pub length-slots : (slots : List (Option Entry)) → length (by_number slots) ≡ count_by is_some slots
length-slots [] = refl
length-slots (None ∷ slots) =
    omega (arith, length-slots slots, sum_by-cons (λ (o : Option Entry). cond (is_some o) 1 0) None slots)
length-slots (Some e ∷ slots) =
    omega (
      arith,
      length-slots slots,
      length-inserted e (by_number slots),
      sum_by-cons (λ (o : Option Entry). cond (is_some o) 1 0) (Some e) slots,
    )

-- ---- The entries of a slab

-- no two entries have one number
abbrev pub AreApart : Slab Entry → Type 0
AreApart s = (j k : ℕ) (e f : Entry) → get s j ≡ Some e → get s k ≡ Some f → e.seq ≡ f.seq → j ≡ k

abbrev pub listed : Slab Entry → List Entry
listed s = by_number s.slots

pub rising : (s : Slab Entry) → AreApart s → AreEntriesRising (listed s)
rising s apart = rising_slots s.slots apart

pub from_slab : (s : Slab Entry) (e : Entry) → Stands e (listed s) → (k : ℕ) × (get s k ≡ Some e)
from_slab s e there = from_slots e s.slots there

pub in_slab : (s : Slab Entry) (k : ℕ) (e : Entry) → get s k ≡ Some e → Stands e (listed s)
in_slab s k e is = in_slots e s.slots k is

pub some_same : (a b : Entry) → Some a ≡ Some b → a ≡ b
some_same a b same = cc

pub some_none : (a : Entry) → Some a ≢ None
some_none a same = cc

module _ (old new : Slab Entry) (was : AreApart old) (now : AreApart new) where
  pub listed-added : (e : Entry) → IsAdded old new e → NoneHasNumber e.seq old
      → listed new ≡ inserted_entry e (listed old)
  listed-added e added none =
      same_members (listed new) (inserted_entry e (listed old)) (rising new now)
      (IsRising-inserted e (listed old) (rising old was)
      (none_has e.seq (listed old) (λ y there is. let at = from_slab old y there in none at.0 y at.1 is)))
      (λ x there.
      let at = from_slab new x there in
      elim (cases_eq at.0 added.key) [
        | inl same ↦
            let it : e ≡ x = some_same e x (sym added.updates.changed ∙ ap (get new) (sym same) ∙ at.1) in
            subst (λ z. Stands z (inserted_entry e (listed old))) it (inserted_stands e (listed old))
        | inr other ↦
            others_stand e x (listed old) (in_slab old at.0 x (sym (added.updates.others at.0 other) ∙ at.1))
      ])
      (λ x there.
      elim (Stands-inserted e x (listed old) there) [
        | inl same ↦ in_slab new added.key x (added.updates.changed ∙ ap Some same)
        | inr later ↦
            let at = from_slab old x later in
            let other : at.0 ≢ added.key =
            λ same. some_none x (sym at.1 ∙ ap (get old) same ∙ added.vacant) in
            in_slab new at.0 x (added.updates.others at.0 other ∙ at.1)
      ])

  pub listed-gone : (key : ℕ) (e : Entry) → get old key ≡ Some e → Updates old new key None
      → listed new ≡ filter (is_other e.seq) (listed old)
  listed-gone key e it updates =
      same_members (listed new) (filter (is_other e.seq) (listed old)) (rising new now)
      (IsRising-filter (is_other e.seq) (listed old) (rising old was))
      (λ x there.
      let at = from_slab new x there in
      let other : at.0 ≢ key = λ same. some_none x (sym at.1 ∙ ap (get new) same ∙ updates.changed) in
      let before : get old at.0 ≡ Some x = sym (updates.others at.0 other) ∙ at.1 in
      let far : x.seq ≢ e.seq = λ same. other (was at.0 key x e before it same) in
      Stands-filter (is_other e.seq) x (listed old) (in_slab old at.0 x before) (grind (arith, nat_tests, far)))
      (λ x there.
      let stood = Stands-filtered (is_other e.seq) x (listed old) there in
      let at = from_slab old x stood.0 in
      let other : at.0 ≢ key =
      λ same.
      let it2 : x ≡ e = some_same x e (sym at.1 ∙ ap (get old) same ∙ it) in
      let level : x.seq ≡ e.seq = ap (λ (z : Entry). z.seq) it2 in
      let none : is_other e.seq x ≡ false = grind (arith, nat_tests, level) in
      false≢true (sym none ∙ stood.1) in
      in_slab new at.0 x (updates.others at.0 other ∙ at.1))

  kept_some : (test : Entry → Bool) (o : Option Entry) (x : Entry) → kept test o ≡ Some x
      → (o ≡ Some x) × (test x ≡ true)
  kept_some test None x is = absurd cc
  kept_some test (Some e) x is = by_test (test e) refl is
    where
      by_test : (b : Bool) → test e ≡ b → cond b (Some e) None ≡ Some x → (Some e ≡ Some x) × (test x ≡ true)
      by_test true passes is = (is, subst (λ z. test z ≡ true) (some_same e x is) passes)
      by_test false passes is = absurd (some_none x (sym is))

  pub listed-kept : (test : Entry → Bool) → AreKept test old new → listed new ≡ filter test (listed old)
  listed-kept test stays =
      same_members (listed new) (filter test (listed old)) (rising new now)
      (IsRising-filter test (listed old) (rising old was))
      (λ x there.
      let at = from_slab new x there in
      let k = kept_some test (get old at.0) x (sym (stays at.0) ∙ at.1) in
      Stands-filter test x (listed old) (in_slab old at.0 x k.0) k.1)
      (λ x there.
      let stood = Stands-filtered test x (listed old) there in
      let at = from_slab old x stood.0 in
      in_slab new at.0 x (stays at.0 ∙ ap (kept test) at.1 ∙ rw stood.1 refl))

  mapped : (f : Entry → Entry) (o : Option Entry) (x : Entry) → option_map f o ≡ Some x
      → (y : Entry) × (o ≡ Some y) × (f y ≡ x)
  mapped f None x is = absurd cc
  mapped f (Some y) x is = (y, refl, some_same (f y) x is)

  Stands-map : (f : Entry → Entry) (y : Entry) (xs : List Entry) → Stands y xs → Stands (f y) (map f xs)
  Stands-map f y [] there = absurd there
  Stands-map f y (x ∷ xs) (inl same) = inl (ap f same)
  Stands-map f y (x ∷ xs) (inr later) = inr (Stands-map f y xs later)

  Stands-mapped : (f : Entry → Entry) (y : Entry) (xs : List Entry) → Stands y (map f xs)
      → (x : Entry) × Stands x xs × (f x ≡ y)
  Stands-mapped f y [] there = absurd there
  Stands-mapped f y (x ∷ xs) (inl same) = (x, inl refl, same)
  Stands-mapped f y (x ∷ xs) (inr later) = let l = Stands-mapped f y xs later in (l.0, inr l.1, l.2)

  pub listed-woken : (register value : ℕ) → AreWoken register value old new
      → listed new ≡ map (woken_entry register value) (listed old)
  listed-woken register value woken =
      let f = woken_entry register value in
      same_members (listed new) (map f (listed old)) (rising new now) (IsRising-woken register value (listed old) (rising old was))
      (λ x there.
      let at = from_slab new x there in
      let m = mapped f (get old at.0) x (sym (woken at.0) ∙ at.1) in
      subst (λ z. Stands z (map f (listed old))) m.2 (Stands-map f m.0 (listed old) (in_slab old at.0 m.0 m.1)))
      (λ x there.
      let m = Stands-mapped f x (listed old) there in
      let at = from_slab old m.0 m.1 in
      in_slab new at.0 x (woken at.0 ∙ ap (option_map f) at.1 ∙ ap Some m.2))
