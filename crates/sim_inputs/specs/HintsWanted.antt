-- When hints are told behind a fault. (This project's own choice.)
use Rattle.std.specs.Prelude.{Bool, Option, Some, None, codes, if◌then◌else◌}
use Rattle.std.specs.{Str.bytes_eq}
use Rattle.clap.specs.Words.{Text}
use Rattle.hints.specs.{declared.hint.Form.Form}
use Rattle.hints.specs.declared.hint.Form.TheVariants as form
use Rattle.sim_inputs.specs.{declared.hints_wanted.HintsWanted.HintsWanted}
use Rattle.sim_inputs.specs.declared.hints_wanted.HintsWanted.TheVariants as wanted

-- What `--hints` says with this word.
abbrev pub hints_named : Text → Option HintsWanted
hints_named word =
    if bytes_eq word (codes "auto") then Some wanted.Auto
    else if bytes_eq word (codes "always") then Some wanted.Always
    else if bytes_eq word (codes "never") then Some wanted.Never
    else if bytes_eq word (codes "json") then Some wanted.Json
    else None

-- What it says where it was found with this word, or not at all.
abbrev pub hints_in : Option Text → Option HintsWanted
hints_in None = Some wanted.Auto
hints_in (Some word) = hints_named word

-- How a hint is written; none where it isn't. `auto` is for a terminal.
abbrev pub form_of : HintsWanted → Bool → Option Form
form_of wanted.Auto on_terminal = if on_terminal then Some form.Lines else None
form_of wanted.Always on_terminal = Some form.Lines
form_of wanted.Never on_terminal = None
form_of wanted.Json on_terminal = Some form.Json
