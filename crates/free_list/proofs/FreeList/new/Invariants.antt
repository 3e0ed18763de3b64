use Rattle.std.proofs.Common.{◌≡◌, ℕ, ◌&&◌, nat_le, nat_lt}
use Rattle.free_list.specs.Flags.{holds}
use Rattle.free_list.proofs.FreeList.new.Given as goal

-- what has been given back so far
abbrev pub invariant-loop-register : goal.invariant-loop-register
invariant-loop-register l = (q : ℕ) → holds l.list q ≡ (nat_le l.first q && nat_lt q l.register)
