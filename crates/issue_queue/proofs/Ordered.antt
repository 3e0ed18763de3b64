-- The ready entries of a kind by rising number: one more, one less, and how many there may be.
use Rattle.std.proofs.Common.{◌≡◌, ◌≢◌, ◌⊎◌, ℕ, zero, suc, ◌<◌, ◌≤◌, ◌==◌, not, ltb, eqb, Bool, true, false, cond, List, [], ◌∷◌}
use Rattle.std.proofs.Common.{map, filter, length, drop, get_or, Option, Some, None, refl, sym, ap, ◌∙◌, subst, inl, inr, arith}
use Rattle.std.specs.Prelude.{slice_get, insert}
use Rattle.std.specs.List.{AllByRecursion, IsDistinct, list_any}
use Rattle.std.proofs.lemmas.Bool.{cases_eq, cases_Bool, false≢true}
use Rattle.std.proofs.lemmas.Bool.Decides.{nat_tests}
use Rattle.std.proofs.lemmas.Map.Steps.{length-le_from_distinct_below}
use Rattle.slab.specs.Slab.{Slab, get, Updates}
use Rattle.numbers.specs.Sizes.{most_queued}
use Rattle.rv_instr.specs.declared.op.UnitKind.{UnitKind}
use Rattle.issue_queue.specs.{declared.entry.Entry.Entry, declared.order.Ready.Ready, Entry.can_issue, Lists.Stands}
use Rattle.issue_queue.specs.Order.{AreReadyRising, in_order, without, AreAbove, IsBehind}
use Rattle.issue_queue.specs.Parts.{IsPlaced, IsReadyAt, IsOrder, IsOldestAt, NoneReady, ready_of}
use Rattle.issue_queue.proofs.Lists.{all_of, at_all, All-filter, Stands-filter, Stands-filtered}

-- ---- One more

ordered_stands : (r y : Ready) (xs : List Ready) → Stands y (in_order r xs) → (r ≡ y) ⊎ Stands y xs
ordered_stands r y [] (inl same) = inl same
ordered_stands r y [] (inr there) = absurd there
ordered_stands r y (x ∷ xs) there = by_test (ltb r.seq x.seq) (ordered_stands r y xs) there
  where
    by_test : (b : Bool) → (Stands y (in_order r xs) → (r ≡ y) ⊎ Stands y xs)
        → Stands y (cond b (r ∷ x ∷ xs) (x ∷ in_order r xs)) → (r ≡ y) ⊎ Stands y (x ∷ xs)
    by_test true behind (inl same) = inl same
    by_test true behind (inr later) = inr later
    by_test false behind (inl same) = inr (inl same)
    by_test false behind (inr later) = elim (behind later) [ inl same ↦ inl same | inr stays ↦ inr (inr stays) ]

new_stands : (r : Ready) (xs : List Ready) → Stands r (in_order r xs)
new_stands r [] = inl refl
new_stands r (x ∷ xs) =
    elim (ltb r.seq x.seq) as (λ b. Stands r (cond b (r ∷ x ∷ xs) (x ∷ in_order r xs)))
    [ true ↦ inl refl | false ↦ inr (new_stands r xs) ]

others_stand : (r y : Ready) (xs : List Ready) → Stands y xs → Stands y (in_order r xs)
others_stand r y [] there = absurd there
others_stand r y (x ∷ xs) there = by_test (ltb r.seq x.seq) (others_stand r y xs) there
  where
    by_test : (b : Bool) → (Stands y xs → Stands y (in_order r xs)) → Stands y (x ∷ xs)
        → Stands y (cond b (r ∷ x ∷ xs) (x ∷ in_order r xs))
    by_test true behind there = inr there
    by_test false behind (inl same) = inl same
    by_test false behind (inr later) = inr (behind later)

higher : (m n : ℕ) (xs : List Ready) → m < n → AreAbove n xs → AreAbove m xs
higher m n [] low all = tt
higher m n (x ∷ xs) low all = (omega (arith, all.0), higher m n xs low all.1)

above_ordered : (n : ℕ) (r : Ready) (xs : List Ready) → n < r.seq → AreAbove n xs → AreAbove n (in_order r xs)
above_ordered n r xs low all =
    all_of (λ x. n < x.seq) (in_order r xs) (λ x there.
    elim (ordered_stands r x xs there) [
      | inl same ↦ subst (λ (z : Ready). n < z.seq) same low
      | inr later ↦ at_all (λ y. n < y.seq) xs x all later
    ])

rising_ordered : (r : Ready) (xs : List Ready) → AreReadyRising xs → ((y : Ready) → Stands y xs → y.seq ≢ r.seq)
    → AreReadyRising (in_order r xs)
rising_ordered r [] rising apart = (tt, tt)
rising_ordered r (x ∷ xs) rising apart =
    elim (cases_Bool (ltb r.seq x.seq)) [
      | inl is ↦
          let low : r.seq < x.seq = grind (arith, nat_tests, is) in
          rw is ((low, higher r.seq x.seq xs low rising.0), rising)
      | inr is ↦
          let other = apart x (inl refl) in
          let high : x.seq < r.seq = grind (arith, nat_tests, is, other) in
          rw is (above_ordered x.seq r xs high rising.0, rising_ordered r xs rising.1 (λ y there. apart y (inr there)))
    ]

-- ---- One less

rising_filter : (test : Ready → Bool) (xs : List Ready) → AreReadyRising xs → AreReadyRising (filter test xs)
rising_filter test [] rising = tt
rising_filter test (x ∷ xs) rising =
    elim (test x) as (λ b. AreReadyRising (cond b (x ∷ filter test xs) (filter test xs))) [
      | true ↦ (All-filter (λ y. x.seq < y.seq) test xs rising.0, rising_filter test xs rising.1)
      | false ↦ rising_filter test xs rising.1
    ]

-- ---- Where a number belongs

above_place : (n i : ℕ) (d : Ready) (ys : List Ready) → AreAbove n ys → i < length ys → n < (get_or ys i d).seq
above_place n i d [] all inside = absurd (omega (arith, inside))
above_place n zero d (y ∷ ys) all inside = all.0
above_place n (suc i) d (y ∷ ys) all inside = above_place n i d ys all.1 (omega (arith, inside))

pub inserted_at : (r d : Ready) (place : ℕ) (xs : List Ready) → AreReadyRising xs → place ≤ length xs
    → AreAbove r.seq (drop place xs) → IsBehind r.seq place xs → insert xs place r ≡ in_order r xs
inserted_at r d zero [] rising inside above behind = refl
inserted_at r d zero (x ∷ xs) rising inside above behind =
    let low = above.0 in
    let first : ltb r.seq x.seq ≡ true = grind (arith, nat_tests, low) in
    rw first refl
inserted_at r d (suc place) [] rising inside above behind = absurd (omega (arith, inside))
inserted_at r d (suc zero) (x ∷ xs) rising inside above behind =
    let low : x.seq ≤ r.seq = behind 0 d (omega arith) in
    let later : ltb r.seq x.seq ≡ false = grind (arith, nat_tests, low) in
    rw later (ap (λ ys. x ∷ ys) (inserted_at r d zero xs rising.1 (omega arith) above
    (λ i e some. absurd (omega (arith, some)))))
inserted_at r d (suc (suc place)) (x ∷ xs) rising inside above behind =
    let last : (get_or xs place d).seq ≤ r.seq = behind (suc place) d (omega arith) in
    let short : place < length xs = omega (arith, inside) in
    let low : x.seq < (get_or xs place d).seq = above_place x.seq place d xs rising.0 short in
    let later : ltb r.seq x.seq ≡ false = grind (arith, nat_tests, low, last) in
    rw later (ap (λ ys. x ∷ ys) (inserted_at r d (suc place) xs rising.1 (omega (arith, inside)) above
    (λ i e some. behind (suc i) e (omega (arith, some)))))

-- ---- An order stays exactly the ready ones

some_same : (a b : Entry) → Some a ≡ Some b → a ≡ b
some_same a b same = cc

some_none : (a : Entry) → Some a ≢ None
some_none a same = cc

-- nothing that a unit of the kind may take up stands there
abbrev pub HasNone : UnitKind → Option Entry → Type 0
HasNone kind slot = (f : Entry) → slot ≡ Some f → can_issue kind f ≡ false

pub none_there : (kind : UnitKind) → HasNone kind None
none_there kind f is = absurd (some_none f (sym is))

pub one_that_cannot : (kind : UnitKind) (e : Entry) → can_issue kind e ≡ false → HasNone kind (Some e)
one_that_cannot kind e cannot f is = subst (λ z. can_issue kind z ≡ false) (some_same e f is) cannot

module _ (kind : UnitKind) (old new : Slab Entry) (order : List Ready) (is : IsOrder kind old order) (key : ℕ)
    (slot : Option Entry) (updates : Updates old new key slot) where
  -- one of the order stands under another key than one that isn't ready
  elsewhere : HasNone kind (get old key) → (x : Ready) → IsReadyAt kind old x → x.key ≢ key
  elsewhere none x at same = false≢true (sym (none at.entry (ap (get old) (sym same) ∙ at.there)) ∙ at.can)

  still : (x : Ready) → IsReadyAt kind old x → x.key ≢ key → IsReadyAt kind new x
  still x at other =
      record { entry = at.entry; there = updates.others x.key other ∙ at.there; can = at.can; number = at.number }

  all_still : HasNone kind (get old key) → AllByRecursion (IsReadyAt kind new) order
  all_still none =
      all_of (IsReadyAt kind new) order (λ x there.
      let at = at_all (IsReadyAt kind old) order x is.only there in
      still x at (elsewhere none x at))

  pub order-stays : HasNone kind (get old key) → HasNone kind slot → IsOrder kind new order
  order-stays none_old none_new = record {
    rising = is.rising;
    only = all_still none_old;
    each = λ k e at can.
        elim (cases_eq k key) [
          | inl same ↦
              absurd (false≢true (sym (none_new e (sym updates.changed ∙ ap (get new) (sym same) ∙ at)) ∙ can))
          | inr other ↦ is.each k e (sym (updates.others k other) ∙ at) can
        ];
  }

  pub order-more : (e : Entry) → slot ≡ Some e → can_issue kind e ≡ true → HasNone kind (get old key)
      → ((k : ℕ) (f : Entry) → k ≢ key → get old k ≡ Some f → f.seq ≢ e.seq)
      → IsOrder kind new (in_order (ready_of key e) order)
  order-more e is_slot can none apart = record {
    rising = rising_ordered (ready_of key e) order is.rising (λ y there.
        let at = at_all (IsReadyAt kind old) order y is.only there in
        let far = apart y.key at.entry (elsewhere none y at) at.there in
        λ same. far (at.number ∙ same));
    only = all_of (IsReadyAt kind new) (in_order (ready_of key e) order) (λ x there.
        elim (ordered_stands (ready_of key e) x order there) [
          | inl same ↦
              subst (IsReadyAt kind new) same
              (record { entry = e; there = updates.changed ∙ is_slot; can = can; number = refl })
          | inr later ↦ at_all (IsReadyAt kind new) order x (all_still none) later
        ]);
    each = λ k f at can_f.
        elim (cases_eq k key) [
          | inl same ↦
              let it : e ≡ f = some_same e f (sym (updates.changed ∙ is_slot) ∙ ap (get new) (sym same) ∙ at) in
              subst (λ z. Stands z (in_order (ready_of key e) order)) (λ i. ready_of (sym same i) (it i))
              (new_stands (ready_of key e) order)
          | inr other ↦
              others_stand (ready_of key e) (ready_of k f) order
              (is.each k f (sym (updates.others k other) ∙ at) can_f)
        ];
  }

  pub order-less : (e : Entry) → slot ≡ None → get old key ≡ Some e
      → ((k : ℕ) (f : Entry) → get old k ≡ Some f → f.seq ≡ e.seq → k ≡ key)
      → IsOrder kind new (without e.seq order)
  order-less e is_slot was apart = record {
    rising = rising_filter (λ x. not (x.seq == e.seq)) order is.rising;
    only = all_of (IsReadyAt kind new) (without e.seq order) (λ x there.
        let stood = Stands-filtered (λ y. not (y.seq == e.seq)) x order there in
        let at = at_all (IsReadyAt kind old) order x is.only stood.0 in
        let passes = stood.1 in
        let far : x.seq ≢ e.seq = λ level. let gone : not (x.seq == e.seq) ≡ false = grind (arith, nat_tests, level) in
        false≢true (sym gone ∙ passes) in
        let other : x.key ≢ key =
        λ same.
        let it : at.entry ≡ e = some_same at.entry e (sym at.there ∙ ap (get old) same ∙ was) in
        far (sym at.number ∙ ap (λ (z : Entry). z.seq) it) in
        still x at other);
    each = λ k f at can.
        let other : k ≢ key =
        λ same. some_none f (sym at ∙ ap (get new) same ∙ updates.changed ∙ is_slot) in
        let before : get old k ≡ Some f = sym (updates.others k other) ∙ at in
        let far : f.seq ≢ e.seq = λ level. other (apart k f before level) in
        Stands-filter (λ y. not (y.seq == e.seq)) (ready_of k f) order (is.each k f before can)
        (grind (arith, nat_tests, far));
  }

-- ---- How many there may be

abbrev pub keys : List Ready → List ℕ
keys order = map (λ (x : Ready). x.key) order

any_key : (P : ℕ → Type 0) (order : List Ready) → AllByRecursion (λ x. P x.key) order → (q : ℕ)
    → list_any (eqb q) (keys order) ≡ true → P q
any_key P [] all q is = absurd (false≢true is)
any_key P (x ∷ xs) all q is =
    elim (cases_Bool (eqb q x.key)) [
      | inl same ↦ let it : x.key ≡ q = grind (arith, nat_tests, same) in subst P it all.0
      | inr apart ↦ any_key P xs all.1 q (rw apart at is)
    ]

keys_apart : (k : ℕ) (xs : List Ready) → AllByRecursion (λ x. k ≢ x.key) xs
    → AllByRecursion (λ y. eqb k y ≡ false) (keys xs)
keys_apart k [] all = tt
keys_apart k (x ∷ xs) all = let far = all.0 in (grind (arith, nat_tests, far), keys_apart k xs all.1)

distinct_keys : (kind : UnitKind) (s : Slab Entry) (xs : List Ready) → AreReadyRising xs
    → AllByRecursion (IsReadyAt kind s) xs → IsDistinct eqb (keys xs)
unfolding IsDistinct
distinct_keys kind s [] rising only = tt
distinct_keys kind s (x ∷ xs) rising only = (
  keys_apart x.key xs
      (all_of (λ y. x.key ≢ y.key) xs (λ y there same.
      let low : x.seq < y.seq = at_all (λ z. x.seq < z.seq) xs y rising.0 there in
      let at = at_all (IsReadyAt kind s) xs y only.1 there in
      let it : only.0.entry ≡ at.entry =
      some_same only.0.entry at.entry (sym only.0.there ∙ ap (get s) same ∙ at.there) in
      let level : x.seq ≡ y.seq = sym only.0.number ∙ ap (λ (z : Entry). z.seq) it ∙ at.number in
      omega arith)),
  distinct_keys kind s xs rising.1 only.1,
)

-- one more key than the order's, and all of them below the most
all_distinct : (k : ℕ) (ns : List ℕ) → AllByRecursion (λ y. eqb k y ≡ false) ns → IsDistinct eqb ns
    → IsDistinct eqb (k ∷ ns)
unfolding IsDistinct
all_distinct k ns apart distinct = (apart, distinct)

length-keys : (xs : List Ready) → length (keys xs) ≡ length xs
length-keys [] = refl
length-keys (x ∷ xs) = ap suc (length-keys xs)

any_of : (k : ℕ) (ns : List ℕ) (P : ℕ → Type 0) → P k → ((q : ℕ) → list_any (eqb q) ns ≡ true → P q)
    → (q : ℕ) → list_any (eqb q) (k ∷ ns) ≡ true → P q
any_of k ns P here later q any =
    elim (cases_Bool (eqb q k)) [
      | inl same ↦ let it : k ≡ q = grind (arith, nat_tests, same) in subst P it here
      | inr apart ↦ later q (rw apart at any)
    ]

pub order-room : (kind : UnitKind) (s : Slab Entry) (order : List Ready) → IsOrder kind s order
    → ((k : ℕ) (e : Entry) → get s k ≡ Some e → IsPlaced k e) → (key : ℕ) → key < most_queued
    → HasNone kind (get s key) → length order < most_queued
order-room kind s order is placed key inside none =
    let low : AllByRecursion (λ (x : Ready). x.key < most_queued) order =
    all_of (λ (x : Ready). x.key < most_queued) order (λ x there.
    let at = at_all (IsReadyAt kind s) order x is.only there in
    (placed x.key at.entry at.there).below) in
    let far : AllByRecursion (λ (x : Ready). key ≢ x.key) order =
    all_of (λ (x : Ready). key ≢ x.key) order (λ x there same.
    let at = at_all (IsReadyAt kind s) order x is.only there in
    false≢true (sym (none at.entry (ap (get s) same ∙ at.there)) ∙ at.can)) in
    let most : length (key ∷ keys order) ≤ most_queued =
    length-le_from_distinct_below (key ∷ keys order) most_queued
    (all_distinct key (keys order) (keys_apart key order far) (distinct_keys kind s order is.rising is.only))
    (any_of key (keys order) (λ q. q < most_queued) inside (any_key (λ q. q < most_queued) order low)) in
    omega (arith, most, length-keys order)

-- ---- The first of an order

pub first-some : (kind : UnitKind) (s : Slab Entry) (order : List Ready) → IsOrder kind s order → (x : Ready)
    → slice_get order 0 ≡ Some x → IsOldestAt kind s x.key
first-some kind s [] is x first = absurd cc
first-some kind s (y ∷ ys) is x first =
    let same : y ≡ x = cc in
    let at = subst (IsReadyAt kind s) same is.only.0 in
    record {
      entry = at.entry;
      there = at.there;
      can = at.can;
      oldest = λ j f found can.
          elim (is.each j f found can) [
            | inl it ↦
                let level : y.seq ≡ f.seq = ap (λ (z : Ready). z.seq) it in
                let number = at.number in
                omega (arith, level, number, ap (λ (z : Ready). z.seq) same)
            | inr later ↦
                let low : y.seq < f.seq = at_all (λ (z : Ready). y.seq < z.seq) ys (ready_of j f) is.rising.0 later in
                let number = at.number in
                omega (arith, low, number, ap (λ (z : Ready). z.seq) same)
          ];
    }

pub first-none : (kind : UnitKind) (s : Slab Entry) (order : List Ready) → IsOrder kind s order
    → slice_get order 0 ≡ None → NoneReady kind s
first-none kind s [] is first =
    λ k e at. elim (cases_Bool (can_issue kind e)) [ inl can ↦ absurd (is.each k e at can) | inr cannot ↦ cannot ]
first-none kind s (y ∷ ys) is first = absurd cc
