-- What the loops over what is counted write.
use Rattle.std.specs.Prelude.{if◌then◌else◌}
use Rattle.std.specs.List.{range_with_len}
use Rattle.std.proofs.Common.{◌≡◌, ℕ, suc, ◌+◌, ◌-◌, ◌<◌, ◌≤◌, max, length, List, [], ◌∷◌, ◌++◌, Bool, true, false, nat_lt, sym, ap, ◌∙◌, arith}
use Rattle.charts.specs.declared.text.counted.Counter.{Counter}
use Rattle.charts.specs.Counted.{counter_line, digit_text, height_over, digits_over, blanks_behind, icount_text, icounts_over}
use Rattle.charts.specs.Counted.{in_flight_over, in_flight_text, lines_from, number_in, chosen_over, chosen_text, places_between}
use Rattle.std.specs.Prelude.{slice_get}
use Rattle.events.specs.declared.event.Event.{Event}
use Rattle.charts.specs.{Drawings.Drawing, Text.places}
use Rattle.charts.proofs.Lines.{next_place, no_place}

next_range : (from to : ℕ) → from < to
    → range_with_len from (to - from) ≡ from ∷ range_with_len (from + 1) (to - (from + 1))
next_range from to below =
    let some : to - from ≡ suc (to - (from + 1)) = omega (arith, below) in ap (range_with_len from) some

module _ (drawing : Drawing) (indent : ℕ) (columns : List ℕ) (hart harts : ℕ) where
  pub next_icount : hart < harts → icounts_over drawing indent columns (range_with_len hart (harts - hart))
      ≡ icount_text drawing indent columns hart
      ++ icounts_over drawing indent columns (range_with_len (hart + 1) (harts - (hart + 1)))
  next_icount below = ap (icounts_over drawing indent columns) (next_range hart harts below)

  pub next_in_flight : hart < harts → in_flight_over drawing indent columns (range_with_len hart (harts - hart))
      ≡ in_flight_text drawing indent columns hart
      ++ in_flight_over drawing indent columns (range_with_len (hart + 1) (harts - (hart + 1)))
  next_in_flight below = ap (in_flight_over drawing indent columns) (next_range hart harts below)

module _ (drawing : Drawing) (counter : Counter) (indent : ℕ) (columns : List ℕ) (tall line : ℕ) where
  pub next_line : line < tall → lines_from drawing counter indent columns (tall - line)
      ≡ counter_line drawing counter indent columns (tall - line)
      ++ lines_from drawing counter indent columns (tall - (line + 1))
  next_line below =
      let some : tall - line ≡ suc (tall - (line + 1)) = omega (arith, below) in
      ap (lines_from drawing counter indent columns) some
      ∙ ap (λ left. counter_line drawing counter indent columns left
      ++ lines_from drawing counter indent columns (tall - (line + 1))) (sym some)

module _ (drawing : Drawing) (counter : Counter) (left due column last : ℕ) where
  pub next_digit : column ≤ last → digits_over drawing counter left due (places column last)
      ≡ digit_text left due (number_in drawing counter column) ++ digits_over drawing counter left
      (blanks_behind left due (number_in drawing counter column)) (places (column + 1) last)
  next_digit below = ap (digits_over drawing counter left due) (next_place column last below)

  pub no_digit : last < column → digits_over drawing counter left due (places column last) ≡ []
  no_digit above = ap (digits_over drawing counter left due) (no_place column last above)

  pub next_height : column ≤ last → height_over drawing counter due (places column last)
      ≡ height_over drawing counter (max due (length (number_in drawing counter column))) (places (column + 1) last)
  next_height below = ap (height_over drawing counter due) (next_place column last below)

  pub no_height : last < column → height_over drawing counter due (places column last) ≡ due
  no_height above = ap (height_over drawing counter due) (no_place column last above)

at_most_one_more : (b : Bool) (due : ℕ) → (if b then due + 1 else 0) ≤ due + 1
at_most_one_more true due = omega arith
at_most_one_more false due = omega arith

-- A column makes one blank more due at the most.
pub due_behind : (left due blanks from column : ℕ) (number : List ℕ) → from ≤ column → due ≤ blanks + (column - from)
    → blanks_behind left due number ≤ blanks + (column + 1 - from)
due_behind left due blanks from column number behind before =
    omega (arith, behind, before, at_most_one_more (nat_lt (length number) left) due)

module _ (events : List Event) (before : List ℕ) (place to : ℕ) where
  pub next_chosen : place ≤ to → chosen_over events before (places_between place to)
      ≡ chosen_over events (chosen_text before (slice_get events place)) (places_between (place + 1) to)
  next_chosen below = ap (chosen_over events before) (next_place place to below)
