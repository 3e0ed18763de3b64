use Rattle.outcomes.proofs.Reading.{its_place_inside}
use Rattle.outcomes.proofs.outcomes.Outcomes.witness.Goals as goal

pub order_to-requires : goal.order_to-requires
order_to-requires c =
    its_place_inside c.self.inside c.args.self.now c.args.index c.index.result.now c.self.view_is c.requires
    c.index.ensures c.self.invariant
