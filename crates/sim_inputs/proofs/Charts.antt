-- The options of a chart go together or don't, whatever chart they are said to ask for.
use Rattle.std.proofs.Common.{◌≡◌, ℕ, nat_le, not, ◌&&◌, Bool, true, false, List, Option, None, Some, is_some, Bor}
use Rattle.std.proofs.Common.{option_map, codes, refl, sym, ◌∙◌}
use Rattle.std.proofs.lemmas.Option.{same_Some}
use Rattle.clap.specs.Words.{Row, Text, first_of}
use Rattle.sim_inputs.specs.ChartEnds.{do_ends_rise}
use Rattle.sim_inputs.specs.ChartOptions.{can_be_drawn}
use Rattle.sim_inputs.specs.CommandLine.{IsChart, IsEnd, is_flag_set, last_place, most_columns, number_or, usual_columns}
use Rattle.sim_inputs.specs.Themes.{shade_of}
use Rattle.sim_inputs.specs.declared.line.{ChartCommand.ChartCommand}
use Rattle.sim_inputs.proofs.ChartEnds.{rise_alike}

pub some_alike : (a b : Option (Bor Text)) → option_map (λ f. f.now) a ≡ option_map (λ f. f.now) b → is_some a ≡ is_some b
some_alike None None same = refl
some_alike None (Some other) same = cc
some_alike (Some one) None same = cc
some_alike (Some one) (Some other) same = refl

-- what the options ask for, whether they go together or not
pub record AsksChart (rows : List Row) (chart : ChartCommand) : Type 0 where
  pub from : IsEnd rows (codes "from") 0 last_place chart.from
  pub to : IsEnd rows (codes "to") last_place last_place chart.to
  pub width : number_or usual_columns most_columns (first_of (codes "width") rows) ≡ Some chart.width
  pub svg : first_of (codes "svg") rows ≡ option_map (λ f. f.now) chart.svg
  pub kanata : first_of (codes "kanata") rows ≡ option_map (λ f. f.now) chart.kanata
  pub title : first_of (codes "title") rows ≡ option_map (λ f. f.now) chart.title
  pub theme : shade_of (is_flag_set (codes "light") rows) (is_flag_set (codes "dark") rows) ≡ Some chart.theme

asked_so : (rows : List Row) (chart : ChartCommand) → IsChart rows chart → AsksChart rows chart
asked_so rows chart is = record {
  from = is.from;
  to = is.to;
  width = is.width;
  svg = is.svg;
  kanata = is.kanata;
  title = is.title;
  theme = is.theme;
}

-- whatever chart the options ask for, it can be drawn or it can't
drawn_alike : (rows : List Row) (a b : ChartCommand) → AsksChart rows a → AsksChart rows b
    → can_be_drawn a ≡ can_be_drawn b
drawn_alike rows a b one two =
    let rises : do_ends_rise a.from a.to ≡ do_ends_rise b.from b.to =
    rise_alike rows 0 last_place last_place a.from a.to b.from b.to one.from one.to two.from two.to in
    let width : a.width ≡ b.width = same_Some _ _ (sym one.width ∙ two.width) in
    let picture : option_map (λ f. f.now) a.svg ≡ option_map (λ f. f.now) b.svg = sym one.svg ∙ two.svg in
    let log : option_map (λ f. f.now) a.kanata ≡ option_map (λ f. f.now) b.kanata = sym one.kanata ∙ two.kanata in
    let drawn : is_some a.svg ≡ is_some b.svg = some_alike a.svg b.svg picture in
    let title : is_some a.title ≡ is_some b.title = some_alike a.title b.title (sym one.title ∙ two.title) in
    let theme : a.theme ≡ b.theme = same_Some _ _ (sym one.theme ∙ two.theme) in
    rw (rises, width, picture, log, drawn, title, theme) refl

-- options that don't go together ask for no chart
pub no_chart : (rows : List Row) (a : ChartCommand) → AsksChart rows a → can_be_drawn a ≡ false
    → (b : ChartCommand) → IsChart rows b → ⊥
no_chart rows a asks apart b is =
    let off : false ≡ true = sym apart ∙ drawn_alike rows a b asks (asked_so rows b is) ∙ is.together in cc
