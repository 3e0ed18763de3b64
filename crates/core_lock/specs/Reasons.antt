-- The numbers of the reasons to stop. Of two the greater one stays.
use Rattle.std.specs.Prelude.{ℕ}
use Rattle.core_lock.specs.declared.board.reason.Reason.{Reason}
use Rattle.core_lock.specs.declared.board.reason.Reason.TheVariants.{Ended, Turns, Full, Asked}

abbrev pub number_of : Reason → ℕ
number_of Ended = 1
number_of Turns = 2
number_of Full = 3
number_of Asked = 4
