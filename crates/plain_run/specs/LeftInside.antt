-- How a run is kept.
use Rattle.std.specs.Prelude.{◌≤◌, length}
use Rattle.numbers.specs.Sizes.{most_harts}
use Rattle.plain_run.specs.{Left.Left, declared.finished.PlainRun.TheInside.Inside}

-- what callers see of it
abbrev pub left_of : Inside → Left
left_of a =
    record { records = a.records.items; statuses = a.statuses.items; machine = a.machine }

-- there are no more harts than there may be
pub record IsSound (a : Inside) : Type 0 where
  pub few : length a.statuses.items ≤ most_harts
