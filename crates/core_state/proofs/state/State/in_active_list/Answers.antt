-- Where the parts have it is where the history has it.
use Rattle.core_state.proofs.Following.Place.{flies_by, not_flies_by, few_harts}
use Rattle.core_state.proofs.state.State.in_active_list.Goals as goal

pub in_active_list-requires : goal.in_active_list-requires
in_active_list-requires c = few_harts c.self.inside c.self.invariant

pub returns-clause-there : goal.returns-clause-there
returns-clause-there c =
    flies_by c.self.inside c.self.invariant c.args.self.now c.self.view_is c.args.seq c.in_active_list.result
    c.in_active_list.ensures.inside c.in_active_list.ensures.some

pub returns-clause-nowhere : goal.returns-clause-nowhere
returns-clause-nowhere c =
    not_flies_by c.self.inside c.self.invariant c.args.self.now c.self.view_is c.args.seq c.in_active_list.result
    c.in_active_list.ensures.none
