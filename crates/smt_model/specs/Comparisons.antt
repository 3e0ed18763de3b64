-- When what two events say is the same.
use Rattle.std.specs.Prelude.{Bool, true, false, ◌==◌, ◌&&◌, Option, Some, None}
use Rattle.smt_model.specs.Words.{Next, Pc, Ended, Stopped, Outcome, Effect, Written}
use Rattle.smt_model.specs.Basics.{same_number}

abbrev pub same_next : Next → Next → Bool
same_next (Pc a) (Pc b) = a == b
same_next (Ended a) (Ended b) = a == b
same_next (Stopped a) (Stopped b) = a == b
same_next _ _ = false

abbrev pub same_write : Option Written → Option Written → Bool
same_write None None = true
same_write (Some v) (Some w) = (v.addr == w.addr) && ((v.n == w.n) && (v.datum == w.datum))
same_write _ _ = false

abbrev pub same_outcome : Outcome → Outcome → Bool
same_outcome a b =
    same_number a.value b.value && (same_next a.next b.next && (same_number a.addr b.addr
    && (same_number a.datum b.datum && same_number a.out b.out)))

abbrev pub same_effect : Effect → Effect → Bool
same_effect a b =
    same_number a.value b.value
    && (same_next a.next b.next && (same_write a.write b.write && same_number a.out b.out))
