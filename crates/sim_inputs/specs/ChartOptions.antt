-- The options of a chart, and whether they go together. (This project's own choice.)
use Rattle.std.specs.Prelude.{nat_le, not, ◌&&◌, ◌||◌, Bool, true, Option, Some, None, is_some, option_map, codes}
use Rattle.std.specs.Prelude.{if◌then◌else◌}
use Rattle.std.specs.{Str.bytes_eq}
use Rattle.clap.specs.Words.{Text}
use Rattle.sim_inputs.specs.declared.line.ChartCommand.{ChartCommand}
use Rattle.sim_inputs.specs.declared.line.Columns.{Columns}
use Rattle.sim_inputs.specs.declared.line.Columns.TheVariants.{Events, Rounds}
use Rattle.sim_inputs.specs.ChartEnds.{do_ends_rise}
use Rattle.sim_inputs.specs.Themes.{can_be_themed}

-- What `--columns` says with this word; and where it was found with it, or not at all.
abbrev pub columns_named : Text → Option Columns
columns_named word =
    if bytes_eq word (codes "events") then Some Events
    else if bytes_eq word (codes "rounds") then Some Rounds
    else None

abbrev pub columns_in : Option Text → Option Columns
columns_in None = Some Events
columns_in (Some word) = columns_named word

-- Two files, where both are named, have two names.
abbrev pub are_apart : Option Text → Option Text → Bool
are_apart None other = true
are_apart (Some one) None = true
are_apart (Some one) (Some other) = not (bytes_eq one other)

-- A picture alone has a title and colours.
abbrev pub is_dressed_alone : ChartCommand → Bool
is_dressed_alone chart = (is_some chart.svg || not (is_some chart.title))
    && can_be_themed (is_some chart.svg) (is_some chart.theme)

-- The last event that is drawn isn't before the first, where both are numbers; a line has room; picture and log are two
-- files; and what is said of a picture has one.
abbrev pub can_be_drawn : ChartCommand → Bool
can_be_drawn chart = do_ends_rise chart.from chart.to && nat_le 1 chart.width
    && are_apart (option_map (λ f. f.now) chart.svg) (option_map (λ f. f.now) chart.kanata)
    && is_dressed_alone chart
