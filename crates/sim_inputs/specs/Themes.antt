-- The colours of a picture, as `--theme` says them. (This project's own choice.)
use Rattle.std.specs.Prelude.{◌||◌, not, Bool, true, false, Option, Some, None, codes, if◌then◌else◌, option_map}
use Rattle.std.specs.{Str.bytes_eq}
use Rattle.clap.specs.Words.{Text}
use Rattle.story_pictures.specs.declared.form.Theme.{Theme}
use Rattle.story_pictures.specs.declared.form.Theme.TheVariants.{Automatic, Light, Dark}

-- What it says with this word.
abbrev pub theme_named : Text → Option Theme
theme_named word =
    if bytes_eq word (codes "auto") then Some Automatic
    else if bytes_eq word (codes "light") then Some Light
    else if bytes_eq word (codes "dark") then Some Dark
    else None

-- What it says where it was found with this word, or not at all.
abbrev pub theme_in : Option Text → Option (Option Theme)
theme_in None = Some None
theme_in (Some word) = option_map Some (theme_named word)

-- What `--light` and `--dark` say: one of them at most.
abbrev pub shade_of : Bool → Bool → Option (Option Theme)
shade_of false false = Some None
shade_of true false = Some (Some Light)
shade_of false true = Some (Some Dark)
shade_of true true = None

-- There are colours of a picture alone.
abbrev pub can_be_themed : Bool → Bool → Bool
can_be_themed is_drawn is_themed = is_drawn || not is_themed
