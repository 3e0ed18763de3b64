-- The exit status of several tests. (This project's own choice.)
use Rattle.std.specs.Prelude.{ℕ, ◌==◌, nat_lt, if◌then◌else◌, List, [], ◌∷◌}

-- How bad an exit status is: 0 is no fault, 1 a difference, 3 a test with too many states, 2 an input that is refused, 4 a
-- trace, 5 memory, files and the output.
abbrev pub badness : ℕ → ℕ
badness status = if status == 0 then 0 else if status == 1 then 1 else if status == 3 then 2
    else if status == 2 then 3 else if status == 4 then 4 else 5

abbrev pub worse : ℕ → ℕ → ℕ
worse one other = if nat_lt (badness one) (badness other) then other else one

-- The worst of several, the newest first; 0 of none.
abbrev pub worst : List ℕ → ℕ
worst [] = 0
worst (status ∷ past) = worse (worst past) status
