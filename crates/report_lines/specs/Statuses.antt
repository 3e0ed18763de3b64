-- What an exit status of the program says. (This project's own choice.)
use Rattle.std.specs.Prelude.{ℕ, Bool, ◌||◌, ◌==◌}

-- An exit status that says how the harts stand, and not that there is no report.
abbrev pub says_harts : ℕ → Bool
says_harts status = status == 0 || (status == 1 || status == 3)
