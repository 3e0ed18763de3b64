-- What an actor does behind a turn in which it found nothing to do.
use Rattle.std.specs.Prelude.{ℕ, zero, suc, ◌+◌, ◌*◌, min, nat_lt, if◌then◌else◌}
use Rattle.events.specs.declared.role.Role.{Role}
use Rattle.events.specs.declared.role.Role.TheVariants.{Front, Retire}
use Rattle.actors.specs.declared.patience.Pause.{Pause}
use Rattle.actors.specs.declared.patience.Pause.TheVariants as pause

-- How many turns go round: a turn of a front end or of a retirer is of one hart, and all others' are of all.
abbrev pub turns_of_round : Role → ℕ → ℕ
turns_of_round Front harts = harts
turns_of_round Retire harts = harts
turns_of_round _ harts = 1

-- What it does behind the next round of idle turns of a row: it glances at the board, then it rests for 10
-- microseconds, and each time for twice as long, up to 160.
abbrev pub longer : Pause → Pause
longer pause.Nothing = pause.Glance
longer pause.Watch = pause.Glance
longer pause.Glance = pause.Rest 10
longer (pause.Rest micros) = pause.Rest (min (2 * micros) 160)

-- What it does behind an idle turn, while it has so many turns left without a rest: then it watches the board. Later
-- it asks of the next hart at once, until so many turns in a row were idle that they go round.
abbrev pub pause_behind : ℕ → ℕ → ℕ → Pause → Pause
pause_behind zero idle round last = if nat_lt (idle + 1) round then pause.Nothing else longer last
pause_behind (suc eager) idle round last = pause.Watch

-- How many idle turns of a round there are then.
abbrev pub idle_behind : ℕ → ℕ → ℕ → ℕ
idle_behind zero idle round = if nat_lt (idle + 1) round then idle + 1 else 0
idle_behind (suc eager) idle round = idle

-- What it did behind its last whole round, from which the next pause comes.
abbrev pub last_behind : ℕ → ℕ → ℕ → Pause → Pause
last_behind zero idle round last = if nat_lt (idle + 1) round then last else longer last
last_behind (suc eager) idle round last = pause.Watch
