use Rattle.std.proofs.Common.{◌≡◌, length}
use Rattle.sc_machine.proofs.Beginning.{AreFirst}
use Rattle.sc_machine.proofs.machine.first_harts.Given as goal

-- the harts so far are as they begin
abbrev pub invariant-loop-hart : goal.invariant-loop-hart
invariant-loop-hart l = (length l.each.items ≡ l.hart) × AreFirst l.harts l.entry l.each.items
