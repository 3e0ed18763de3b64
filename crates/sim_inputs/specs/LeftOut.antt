-- The reductions that a search of outcomes leaves out, as `--without` says them. (This project's own choice.)
use Rattle.std.specs.Prelude.{◌≡◌, false, Option, Some, None}
use Rattle.clap.specs.Words.{Text}
use Rattle.reductions.specs.{Lists.IsListed, Names.has}
use Rattle.reductions.specs.declared.{reduction.Reduction.Reduction, without.Without.Without}

-- What was found for it leaves out these: those of its list, or none where it isn't given.
abbrev pub IsWithout : Option Text → Without → Type 0
IsWithout None without = (reduction : Reduction) → has without reduction ≡ false
IsWithout (Some list) without = IsListed list without
