-- The last event of an instruction in what a symbol names, sought from the end.
use Rattle.std.proofs.Common.{◌≡◌, ◌+◌, ◌-◌, ◌≤◌, ◌<◌, ℕ, zero, suc, ◌==◌, Bool, true, false, List, [], ◌∷◌, length}
use Rattle.std.proofs.Common.{Option, Some, None, refl, sym, ap, subst, ◌∙◌, arith, inl, inr, slice_get}
use Rattle.std.specs.Option.{option_map_or}
use Rattle.std.proofs.{lemmas.Bool.cases_Bool, lemmas.Bool.Decides.nat_tests}
use Rattle.events.specs.declared.event.Event.{Event}
use Rattle.chart_rows.specs.declared.row.Row.{Row}
use Rattle.symbols.specs.declared.symbol.Symbol.{Symbol}
use Rattle.core_commands.specs.ChartEnds.{is_event_of, is_event_in}

nothing_past : {X : Type 0} (xs : List X) (n : ℕ) → length xs ≤ n → slice_get xs n ≡ None
nothing_past [] n past = refl
nothing_past (x ∷ xs) zero past = absurd (omega arith)
nothing_past (x ∷ xs) (suc n) past = nothing_past xs n (omega arith)

module _ (hart : Option ℕ) (symbol : Symbol) (rows : List Row) (events : List Event) where
  -- behind the end there is none
  pub none_behind : (later : ℕ) → length events ≤ later → is_event_in hart symbol rows events later ≡ false
  none_behind later past =
      ap (λ (event : Option Event). option_map_or (is_event_of hart symbol rows) event false)
      (nothing_past events later past)

  -- one more place with none
  pub none_at : (back later : ℕ) → back < length events → length events - (back + 1) ≤ later
      → is_event_in hart symbol rows events (length events - 1 - back) ≡ false
      → ((other : ℕ) → length events - back ≤ other → is_event_in hart symbol rows events other ≡ false)
      → is_event_in hart symbol rows events later ≡ false
  none_at back later inside past here behind =
      let place : ℕ = length events - 1 - back in
      elim (cases_Bool (later == place)) [
        | inl is ↦
            let same : later ≡ place = grind (arith, nat_tests) in
            ap (is_event_in hart symbol rows events) same ∙ here
        | inr apart ↦ behind later (grind (arith, nat_tests))
      ]
