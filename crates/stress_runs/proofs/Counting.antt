-- One row of a table, as a run is counted.
use Rattle.std.proofs.Common.{◌≡◌, ℕ, ◌+◌, ◌%◌, ◌^◌, ◌<◌, Bool, true, false, ◌||◌, if◌then◌else◌, refl, ap, sym, ◌∙◌}
use Rattle.std.proofs.Common.{arith, List, ◌∷◌, ◌++◌, length, map, take, drop, get_or, set}
use Rattle.std.specs.List.{list_any}
use Rattle.std.proofs.lemmas.List.{drop_more, get_or_at, length-map, length-take}
use Rattle.std.proofs.lemmas.List.Edits.{map_over_more}
use Rattle.std.proofs.lemmas.List.Folds.{list_any_more}
use Rattle.stress_runs.specs.declared.tally.Row.{Row}
use Rattle.watched_outcomes.specs.Endings.{Ending}
use Rattle.stress_runs.specs.{Ends.has_end, Ends.counting}

or_true : (b : Bool) → (b || true) ≡ true
or_true true = refl
or_true false = refl

or_false : (b : Bool) → (b || false) ≡ b
or_false true = refl
or_false false = refl

module _ (end : Ending) (xs ys : List Row) (i : ℕ) (x : Row) (inside : i < length xs)
    (so_far : ys ≡ map (counting end) (take i xs) ++ drop i xs) (here : x ≡ get_or ys i x) where
  was : x ≡ get_or xs i x
  was =
      let front : List Row = map (counting end) (take i xs) in
      let long : length front ≡ i = length-map (take i xs) (counting end) ∙ omega (arith, length-take i xs) in
      let parts : ys ≡ front ++ get_or xs i x ∷ drop (i + 1) xs =
      so_far ∙ ap (λ l. front ++ l) (drop_more xs i x inside) in
      here ∙ ap (λ l. get_or l i x) parts ∙ get_or_at front _ _ x i long

  any_more : list_any (has_end end) (take (i + 1) xs) ≡ (list_any (has_end end) (take i xs) || has_end end x)
  any_more =
      list_any_more (has_end end) xs i x inside
      ∙ ap (λ (y : Row). list_any (has_end end) (take i xs) || has_end end y) (sym was)

  -- The element, as it was read of the array.
  read_as : (b : Bool) → has_end end (get_or ys i x) ≡ b → has_end end x ≡ b
  read_as b is = ap (has_end end) here ∙ is

  pub counted_here : has_end end (get_or ys i x) ≡ true
      → set ys i (record { end = (get_or ys i x).end; count = ((get_or ys i x).count + 1) % 2 ^ 32 })
      ≡ map (counting end) (take (i + 1) xs) ++ drop (i + 1) xs
  counted_here same =
      let y : Row = get_or ys i x in
      let is : counting end y ≡ record { end = y.end; count = (y.count + 1) % 2 ^ 32 } = rw same refl in
      ap (set ys i) (sym is ∙ ap (counting end) (sym here))
      ∙ map_over_more (counting end) xs ys i x inside so_far here

  pub counted_other : has_end end (get_or ys i x) ≡ false
      → set ys i (get_or ys i x) ≡ map (counting end) (take (i + 1) xs) ++ drop (i + 1) xs
  counted_other other =
      let y : Row = get_or ys i x in
      let is : counting end y ≡ y = rw other refl in
      ap (set ys i) (sym is ∙ ap (counting end) (sym here))
      ∙ map_over_more (counting end) xs ys i x inside so_far here

  pub there_here : has_end end (get_or ys i x) ≡ true → true ≡ list_any (has_end end) (take (i + 1) xs)
  there_here same =
      sym (any_more ∙ ap (λ b. list_any (has_end end) (take i xs) || b) (read_as true same)
      ∙ or_true (list_any (has_end end) (take i xs)))

  pub there_other : (there : Bool) → there ≡ list_any (has_end end) (take i xs) → has_end end (get_or ys i x) ≡ false
      → there ≡ list_any (has_end end) (take (i + 1) xs)
  there_other there before other =
      before
      ∙ sym (any_more ∙ ap (λ b. list_any (has_end end) (take i xs) || b) (read_as false other)
      ∙ or_false (list_any (has_end end) (take i xs)))
