-- The rows of a tally count its runs: of the ends that pass a test, the counts together are as many runs as have ended so.
use Rattle.std.proofs.Common.{◌≡◌, ℕ, suc, ◌+◌, ◌≤◌, Bool, true, false, ◌||◌, if◌then◌else◌, refl, ap, sym, subst, ◌∙◌}
use Rattle.std.proofs.Common.{arith, inl, inr, List, [], ◌∷◌, ◌++◌, length, map}
use Rattle.std.specs.Prelude.{sum_by}
use Rattle.std.proofs.lemmas.Bool.{cases_Bool, false≢true}
use Rattle.std.proofs.lemmas.List.Sums.{sum_by-cons}
use Rattle.smt_model.specs.{Basics.how_many, Basics.total}
use Rattle.watched_outcomes.specs.Endings.{Ending}
use Rattle.stress_runs.specs.declared.tally.Row.{Row}
use Rattle.stress_runs.specs.Ends.{ends_of, has_come, row_of, rows_of, same_end, times_of}
use Rattle.stress_runs.proofs.Same.{end_decides}
use Rattle.litmus_histograms.specs.Counting.{counted, in_rows, in_runs}

-- ---- Sums over lists

pub sum_is_total : {A : Type 0} (f : A → ℕ) (xs : List A) → sum_by f xs ≡ total f xs
sum_is_total f [] = refl
sum_is_total f (x ∷ xs) = sum_by-cons f x xs ∙ ap (λ n. f x + n) (sum_is_total f xs)

total_map : {A B : Type 0} (f : B → ℕ) (g : A → B) (xs : List A) → total f (map g xs) ≡ total (λ x. f (g x)) xs
total_map f g [] = refl
total_map f g (x ∷ xs) = ap (λ n. f (g x) + n) (total_map f g xs)

total_push : {A : Type 0} (f : A → ℕ) (xs : List A) (x : A) → total f (xs ++ x ∷ []) ≡ total f xs + f x
total_push f [] x = omega arith
total_push f (y ∷ xs) x = let rest = total_push f xs x in omega (arith, rest)

pub total_plus : {A : Type 0} (f g h : A → ℕ) → ((x : A) → h x ≡ f x + g x) → (xs : List A)
    → total h xs ≡ total f xs + total g xs
total_plus f g h both [] = refl
total_plus f g h both (x ∷ xs) =
    let here = both x in let rest = total_plus f g h both xs in omega (arith, here, rest)

-- ---- One more run

-- One, where it passes.
abbrev pub one : Bool → ℕ
one b = if b then 1 else 0

pub how_more : {A : Type 0} (test : A → Bool) (x : A) (xs : List A) → how_many test (x ∷ xs) ≡ one (test x) + how_many test xs
how_more test x xs = elim (cases_Bool (test x)) [ inl t ↦ rw t (omega arith) | inr f ↦ rw f (omega arith) ]

-- What a run adds that has ended as e, to that of an end.
abbrev hit : Ending → ℕ → Ending → ℕ
hit e n x = if same_end e x then n else 0

come_same : (e f : Ending) (past : List Ending) → same_end f e ≡ true → has_come f past ≡ has_come e past
come_same e f past same = ap (λ x. has_come x past) ((end_decides f e).0 same)

-- The ends of some runs are those that came, each once.
module _ (e : Ending) (n : ℕ) where
  one_more : (f : Ending) (past : List Ending)
      → total (hit e n) (ends_of past) ≡ (if has_come e past then n else 0)
      → total (hit e n) (ends_of (f ∷ past)) ≡ (if has_come e (f ∷ past) then n else 0)
  one_more f past before = elim (cases_Bool (has_come f past)) [
    | inl come ↦ elim (cases_Bool (same_end f e)) [
      | inl same ↦
          let there : has_come e past ≡ true = sym (come_same e f past same) ∙ come in
          rw (come, same) (before ∙ ap (λ b. if b then n else 0) there)
      | inr other ↦ rw (come, other) before
    ]
    | inr new ↦ elim (cases_Bool (same_end f e)) [
      | inl same ↦
          let absent : has_come e past ≡ false = sym (come_same e f past same) ∙ new in
          let turned : same_end e f ≡ true = (end_decides e f).1 (sym ((end_decides f e).0 same)) in
          let none : total (hit e n) (ends_of past) ≡ 0 = before ∙ ap (λ b. if b then n else 0) absent in
          let last : hit e n f ≡ n = ap (λ b. if b then n else 0) turned in
          let all = total_push (hit e n) (ends_of past) f in
          rw (new, same) (omega (arith, none, last, all))
      | inr other ↦ elim (cases_Bool (same_end e f)) [
        | inl turned ↦
            let same : same_end f e ≡ true = (end_decides f e).1 (sym ((end_decides e f).0 turned)) in
            absurd (false≢true (sym other ∙ same))
        | inr turned ↦
            let last : hit e n f ≡ 0 = ap (λ b. if b then n else 0) turned in
            let all = total_push (hit e n) (ends_of past) f in
            let same : total (hit e n) (ends_of past ++ f ∷ []) ≡ total (hit e n) (ends_of past) =
            omega (arith, last, all) in
            rw (new, other) (same ∙ before)
      ]
    ]
  ]

  hits : (past : List Ending) → total (hit e n) (ends_of past) ≡ (if has_come e past then n else 0)
  hits [] = refl
  hits (f ∷ past) = one_more f past (hits past)

no_times : (e : Ending) (past : List Ending) → has_come e past ≡ false → times_of past e ≡ 0
no_times e [] new = refl
no_times e (x ∷ past) new = elim (cases_Bool (same_end x e)) [
  | inl same ↦ absurd (false≢true (sym (rw same at new)))
  | inr other ↦ rw other (no_times e past (rw other at new))
]

-- ---- All runs

module _ (test : Ending → Bool) where
  abbrev weight : List Ending → Ending → ℕ
  weight past x = if test x then times_of past x else 0

  weight_more : (e : Ending) (past : List Ending) (x : Ending)
      → weight (e ∷ past) x ≡ weight past x + hit e (one (test e)) x
  weight_more e past x = elim (cases_Bool (same_end e x)) [
    | inl same ↦
        let is : test e ≡ test x = ap test ((end_decides e x).0 same) in
        elim (cases_Bool (test x)) [
          | inl t ↦ rw (same, is, t) (omega arith)
          | inr f ↦ rw (same, is, f) refl
        ]
    | inr other ↦ elim (cases_Bool (test x)) [
      | inl t ↦ rw (other, t) (omega arith)
      | inr f ↦ rw (other, f) refl
    ]
  ]

  first_weight : (e : Ending) (past : List Ending) → has_come e past ≡ false → weight past e ≡ 0
  first_weight e past new = elim (cases_Bool (test e)) [
    | inl t ↦ rw t (no_times e past new)
    | inr f ↦ rw f refl
  ]

  weigh : (past : List Ending) → total (weight past) (ends_of past) ≡ how_many test past
  weigh [] = refl
  weigh (e ∷ past) =
      let n = one (test e) in
      let before = weigh past in
      let more : (ends : List Ending) → total (weight (e ∷ past)) ends ≡ total (weight past) ends + total (hit e n) ends =
      total_plus (weight past) (hit e n) (weight (e ∷ past)) (weight_more e past) in
      let ends = more (ends_of past) in
      let hit_all = hits e n past in
      let count = how_more test e past in
      elim (cases_Bool (has_come e past)) [
        | inl come ↦
            let found : total (hit e n) (ends_of past) ≡ n = hit_all ∙ ap (λ b. if b then n else 0) come in
            let sum : total (weight (e ∷ past)) (ends_of past) ≡ how_many test (e ∷ past) =
            omega (arith, before, ends, found, count) in
            rw come sum
        | inr new ↦
            let none : total (hit e n) (ends_of past) ≡ 0 = hit_all ∙ ap (λ b. if b then n else 0) new in
            let first : weight past e ≡ 0 = first_weight e past new in
            let self : hit e n e ≡ n = ap (λ b. if b then n else 0) ((end_decides e e).1 refl) in
            let last = weight_more e past e in
            let push = total_push (weight (e ∷ past)) (ends_of past) e in
            let sum : total (weight (e ∷ past)) (ends_of past ++ e ∷ []) ≡ how_many test (e ∷ past) =
            omega (arith, before, ends, none, first, self, last, push, count) in
            rw new sum
      ]

  -- So do the rows.
  pub rows_count : (past : List Ending) → in_rows (rows_of past) test ≡ in_runs past test
  rows_count past =
      sum_is_total (counted test) (rows_of past)
      ∙ total_map (counted test) (λ x. row_of past x) (ends_of past) ∙ weigh past

-- There are no more rows than runs.
pub few_rows : (past : List Ending) → length (rows_of past) ≤ length past
few_rows past = let same = length_rows (ends_of past) in let few = few_ends past in omega (arith, same, few)
  where
    length_rows : (ends : List Ending) → length (map (λ x. row_of past x) ends) ≡ length ends
    length_rows [] = refl
    length_rows (x ∷ ends) = ap suc (length_rows ends)

    length_push : (xs : List Ending) (x : Ending) → length (xs ++ x ∷ []) ≡ suc (length xs)
    length_push [] x = refl
    length_push (y ∷ xs) x = ap suc (length_push xs x)

    few_ends : (past : List Ending) → length (ends_of past) ≤ length past
    few_ends [] = omega arith
    few_ends (e ∷ past) =
        let before = few_ends past in
        let push = length_push (ends_of past) e in
        elim (cases_Bool (has_come e past)) [
          | inl come ↦ rw come (omega (arith, before))
          | inr new ↦ rw new (omega (arith, before, push))
        ]
