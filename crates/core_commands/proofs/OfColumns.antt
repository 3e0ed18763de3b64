-- Rows that are placed in columns come by fetch, as they did.
use Rattle.std.proofs.Common.{◌≡◌, ℕ, suc, ◌<◌, ◌≤◌, Bool, true, false, List, [], ◌∷◌, length, get_or, reverse, map}
use Rattle.std.proofs.Common.{Option, Some, None, refl, sym, ap, subst, ◌∙◌, arith, inl, inr, if◌then◌else◌}
use Rattle.std.proofs.lemmas.Bool.{cases_Bool}
use Rattle.std.proofs.lemmas.Grind.{common_steps}
use Rattle.std.proofs.lemmas.List.{get_or_default, get_or-map, length-map, length-reverse}
use Rattle.events.specs.declared.{event.Event.Event, kind.EventKind.EventKind}
use Rattle.events.specs.declared.kind.EventKind.TheVariants.{Fetch}
use Rattle.chart_rows.specs.{declared.row.Row.Row, Rows.AreRows, Rows.is_event, Rows.place, Order.AreByFetch}
use Rattle.chart_columns.specs.{Rounds.AreColumns, Tables.IsTable, Tables.column, Tables.placed}

-- An event's place is below how many there are.
some_is : {A : Type 0} (x y : A) → Some x ≡ Some y → x ≡ y
some_is x y same = ap (λ (o : Option _). elim o [ None ↦ x | Some z ↦ z ]) same

place_below : (kind : EventKind) (past : List Event) (s p : ℕ) → place kind past s ≡ Some p → p < length past
place_below kind [] s p found = absurd (grind (arith, found))
place_below kind (e ∷ past) s p found = elim (cases_Bool (is_event kind e s)) [
  | inl its ↦
      let here : length past ≡ p = some_is (length past) p
      (subst (λ (b : Bool). (if b then Some (length past) else place kind past s) ≡ Some p) its found) in
      omega (arith, here)
  | inr other ↦
      let below : p < length past = place_below kind past s p
      (subst (λ (b : Bool). (if b then Some (length past) else place kind past s) ≡ Some p) other found) in
      omega (arith, below)
]

module _ (rows : List Row) (events : List Event) (columns : List ℕ) (table : IsTable columns)
    (are : AreColumns rows events columns) (drawn : AreRows (reverse events) rows) (by : AreByFetch rows) where
  fetched_below : (k : ℕ) (d : Row) → k < length rows → (get_or rows k d).fetched < length columns
  fetched_below k d inside =
      let below : (get_or rows k d).fetched < length (reverse events) =
      place_below Fetch (reverse events) k (get_or rows k d).fetched (drawn.each k d inside).fetched in
      omega (arith, below, are.count, length-reverse events)

  rises : (a b : ℕ) → a ≤ b → b < length columns → column columns a ≤ column columns b
  rises a b least inside =
      let up : get_or columns a 0 ≤ get_or columns b 0 = table.rises a b 0 least inside in
      let first : get_or columns a a ≡ get_or columns a 0 = get_or_default columns a a 0 (omega (arith, least, inside)) in
      let second : get_or columns b b ≡ get_or columns b 0 = get_or_default columns b b 0 inside in
      omega (arith, up, first, second)

  pub placed_by_fetch : AreByFetch (map (placed columns) rows)
  placed_by_fetch i j d least inside =
      let within : j < length rows = omega (arith, inside, length-map rows (placed columns)) in
      let one : get_or (map (placed columns) rows) i d ≡ placed columns (get_or rows i d) =
      get_or-map (placed columns) rows i d d (omega (arith, least, within)) in
      let other : get_or (map (placed columns) rows) j d ≡ placed columns (get_or rows j d) =
      get_or-map (placed columns) rows j d d within in
      rw (one, other) (rises (get_or rows i d).fetched (get_or rows j d).fetched (by i j d least within)
      (fetched_below j d within))
