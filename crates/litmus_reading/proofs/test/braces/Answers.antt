use Rattle.std.proofs.Common.{length}
use Rattle.litmus_reading.proofs.BracesRead.{closed_place, one_braced}
use Rattle.litmus_reading.proofs.Wholes.{braced_at}
use Rattle.litmus_reading.proofs.test.braces.Goals as goal

pub returns-in-Some-clause-braced : goal.returns-in-Some-clause-braced
returns-in-Some-clause-braced c =
    braced_at _ _ _ _ c.in_ok-first.ensures.first (c.is_mark.ensures.is c.if-not-is_mark.false) c.in-Some.ensures.closes

pub returns-in-Some-clause-only : goal.returns-in-Some-clause-only
returns-in-Some-clause-only c = λ inside behind it.
    one_braced _ _ _ inside behind (braced_at _ _ _ _ c.in_ok-first.ensures.first
    (c.is_mark.ensures.is c.if-not-is_mark.false) c.in-Some.ensures.closes) it

pub returns-in-None-clause-only : goal.returns-in-None-clause-only
returns-in-None-clause-only c = λ inside behind it.
    absurd (c.in-None.ensures.only (length inside)
    (closed_place _ _ inside behind _ c.in_ok-first.ensures.first it))
