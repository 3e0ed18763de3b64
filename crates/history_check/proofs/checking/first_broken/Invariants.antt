-- The core has followed those so far, which are a legal history.
use Rattle.std.proofs.Common.{◌≡◌, reverse}
use Rattle.std.specs.Prelude.{take}
use Rattle.smt_model.specs.Rules.{is_legal}
use Rattle.history_check.proofs.checking.first_broken.Given as goal

abbrev pub invariant-loop-index : goal.invariant-loop-index
invariant-loop-index l =
    (l.core ≡ record l.fn.core { past = reverse (take l.index l.events) })
    × is_legal l.fn.core.setup (reverse (take l.index l.events))
