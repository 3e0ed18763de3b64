-- What is read of the outcomes found.
use Rattle.std.specs.Prelude.{◌≡◌, ℕ, ◌<◌, length, Some, option_map, slice_get, slice_index_or}
use Rattle.std.proofs.Common.{◌∙◌, sym, ap, arith}
use Rattle.std.proofs.lemmas.List.{length-map}
use Rattle.std.proofs.lemmas.Option.{slice_get-map, slice_get-get_or}
use Rattle.outcomes.specs.declared.{listed.Listed.Listed, outcomes.Outcomes.TheInside.Inside}
use Rattle.outcomes.specs.Found.{Found, Told}
use Rattle.outcomes.specs.Told.{found_of, told_of, order_at, order_listed, IsInside}

module _ (a : Inside) (now : Found) (index : ℕ) (l : Listed) (view : found_of a ≡ now)
    (inside : index < length now.listed) (is : l ≡ slice_index_or a.listed.items index l) where
  abbrev told : Listed → Told
  told = told_of a.rows a.ways a.harts a.search.origins

  within : index < length a.listed.items
  within =
      let long = length-map a.listed.items told in
      let same = ap (λ (f : Found). length f.listed) view in
      omega (arith, inside)

  at : slice_get a.listed.items index ≡ Some l
  at = slice_get-get_or a.listed.items index l within ∙ ap Some (sym is)

  pub its_place_inside : IsInside a → l.place < length a.search.states
  its_place_inside so = so.places l (index, within, sym is)

  pub listed_order : order_listed now.listed index ≡ Some (order_at a.rows a.ways a.harts a.search.origins l.place)
  listed_order =
      ap (λ (f : Found). order_listed f.listed index) (sym view)
      ∙ (ap (option_map (λ (t : Told). t.order)) (slice_get-map told a.listed.items index)
      ∙ ap (λ o. option_map (λ (t : Told). t.order) (option_map told o)) at)
