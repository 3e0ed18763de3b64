use Rattle.std.proofs.Common.{◌∙◌, refl}
use Rattle.core_parts.proofs.Squashing.Registers.{giving_none, giving_requires, giving_more, given_older, given_free}
use Rattle.core_parts.proofs.squash.squash_behind.Goals as goal

pub loop-young-init : goal.loop-young-init
loop-young-init c = giving_none _ _ _

pub give_back-requires : goal.give_back-requires
give_back-requires c =
    giving_requires _ _ _ _ _ _ _ c.loop-young.invariant c.in-Some.ensures.some.0 c.requires.own _ refl

pub loop-young-preserved : goal.loop-young-preserved
loop-young-preserved c = giving_more _ _ _ _ _ _ _ c.loop-young.invariant c.in-Some.ensures.some.0 _
    c.in-Some.ensures.some.1 c.give_back.ensures

pub returns-clause-active : goal.returns-clause-active
returns-clause-active c =
    c.in_default.ensures.none.0 ∙ given_older _ _ _ _ _ c.loop-young.invariant c.in_default.ensures.none.1

pub returns-clause-free : goal.returns-clause-free
returns-clause-free c = given_free _ _ _ _ _ c.loop-young.invariant c.in_default.ensures.none.1
