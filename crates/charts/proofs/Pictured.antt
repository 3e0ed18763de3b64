-- The first of those that are drawn behind so many others.
use Rattle.std.specs.Prelude.{filter}
use Rattle.std.proofs.Common.{◌≡◌, ℕ, zero, suc, ◌-◌, ◌<◌, ◌≤◌, Bool, true, false, List, [], ◌∷◌, length, take, get_or}
use Rattle.std.proofs.Common.{slice_get, Option, Some, None, option_map, refl, sym, ap, subst, ◌∙◌, arith, inl, inr}
use Rattle.std.proofs.lemmas.Bool.{cases_Bool}
use Rattle.std.proofs.lemmas.Option.{slice_get_past}
use Rattle.std.proofs.lemmas.List.{take_all}
use Rattle.chart_rows.specs.Views.{shows}
use Rattle.charts.specs.Pictures.{most_pictured, last_pictured}
use Rattle.chart_rows.specs.declared.row.Row.{Row}
use Rattle.chart_rows.specs.declared.view.View.{View}

next_filtered : {A : Type 0} (p : A → Bool) (xs : List A) (i : ℕ) (d : A) → i < length xs → p (get_or xs i d) ≡ true
    → slice_get (filter p xs) (length (filter p (take i xs))) ≡ Some (get_or xs i d)
next_filtered p [] i d inside passes = absurd (omega arith)
next_filtered p (y ∷ ys) zero d inside passes = rw passes refl
next_filtered p (y ∷ ys) (suc i) d inside passes =
    let more = next_filtered p ys i d (omega arith) passes in
    elim (cases_Bool (p y)) [
      | inl drawn ↦ rw drawn more
      | inr undrawn ↦ rw undrawn more
    ]

-- One that is drawn, where the most that a picture has are drawn before it.
pub first_beyond : (view : View) (rows : List Row) (i : ℕ) (d : Row) → i < length rows
    → shows view (get_or rows i d) ≡ true → length (filter (shows view) (take i rows)) ≡ most_pictured
    → Some ((get_or rows i d).fetched - 1) ≡ last_pictured view rows
first_beyond view rows i d inside drawn full =
    let is : slice_get (filter (shows view) rows) most_pictured ≡ Some (get_or rows i d) =
    subst (λ n. slice_get (filter (shows view) rows) n ≡ Some (get_or rows i d)) full
    (next_filtered (shows view) rows i d inside drawn) in
    sym (ap (λ found. option_map (λ (one : Row). one.fetched - 1) found) is)

-- No more are drawn.
pub none_beyond : (view : View) (rows : List Row) (i : ℕ) → length rows ≤ i
    → length (filter (shows view) (take i rows)) ≤ most_pictured → None ≡ last_pictured view rows
none_beyond view rows i end few =
    let is : slice_get (filter (shows view) rows) most_pictured ≡ None =
    slice_get_past (filter (shows view) rows) most_pictured
    (subst (λ (xs : List Row). length (filter (shows view) xs) ≤ most_pictured) (take_all i rows end) few) in
    sym (ap (λ found. option_map (λ (one : Row). one.fetched - 1) found) is)
