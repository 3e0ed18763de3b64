use Rattle.std.proofs.Common.{sym}
use Rattle.retire_squash.specs.Ring.{in_ring}
use Rattle.retire_squash.proofs.Stages.{staged_in_ring, none_staged}
use Rattle.retire_squash.proofs.ring.set_stage.Goals as goal

pub returns-in-Some-clause-staged : goal.returns-in-Some-clause-staged
returns-in-Some-clause-staged c =
    staged_in_ring c.args.first c.args.count c.args.places.now c.requires.length c.requires.first c.requires.count c.args.seq
    c.in-Some.place _ c.args.stage c.requires.rising c.in-Some.ensures.some

pub returns-in_default-clause-staged : goal.returns-in_default-clause-staged
returns-in_default-clause-staged c =
    sym (none_staged c.args.seq c.args.stage (in_ring c.args.first c.args.count c.args.places.now) c.in_default.ensures.none)
