-- Where bands stand in a view.
use Rattle.std.specs.Prelude.{if◌then◌else◌}
use Rattle.std.proofs.Common.{◌≡◌, ℕ, ◌+◌, ◌-◌, ◌*◌, ◌/◌, ◌<◌, ◌≤◌, Bool, nat_lt, subst, arith, inl, inr}
use Rattle.std.proofs.lemmas.Bool.{cases_Bool}
use Rattle.std.proofs.lemmas.Bool.Decides.{nat_tests}
use Rattle.std.proofs.Math.Nat.{div-mul-le_self}
use Rattle.std.proofs.Common.{mul-le-mul_right}
use Rattle.chart_rows.specs.{declared.view.View.View, Bands.bands_of}

-- The column at which a band begins stands in the view.
pub begins_inside : (view : View) (columns number : ℕ) → number < bands_of view columns
    → view.from + number * columns ≤ view.to
begins_inside view columns number one_of =
    elim (cases_Bool (nat_lt view.to view.from)) [
      | inl turned ↦
          let none : number < 0 = subst (λ (b : Bool). number < (if b then 0 else (view.to - view.from) / columns + 1))
          turned one_of in
          absurd (omega (arith, none))
      | inr rises ↦
          let few : number < (view.to - view.from) / columns + 1 =
          subst (λ (b : Bool). number < (if b then 0 else (view.to - view.from) / columns + 1)) rises one_of in
          let within : (view.to - view.from) / columns * columns ≤ view.to - view.from =
          div-mul-le_self (view.to - view.from) columns in
          let smaller : number * columns ≤ (view.to - view.from) / columns * columns =
          mul-le-mul_right columns (omega (arith, few)) in
          grind (arith, nat_tests, smaller, within, rises)
    ]
