use Rattle.std.proofs.Common.{◌≡◌, ◌≤◌, length, take}
use Rattle.story_text.specs.Order.{OfEachStart}
use Rattle.story_pictures.specs.Form.{most_rows}
use Rattle.story_pictures.proofs.Ordering.{IsDrawn}
use Rattle.story_pictures.proofs.order.rows_of_order.Given as goal

-- the steps below this one are made, and these are their rows
abbrev pub invariant-loop-index : goal.invariant-loop-index
invariant-loop-index l = (l.machine.room ≡ l.fn.machine.room)
    × (length l.rows.items ≤ most_rows)
    × OfEachStart l.fn.machine (λ setup. IsDrawn setup (take l.index l.order) l.rows.items l.machine)
