-- Where the parts have it is where the history has it.
use Rattle.core_state.proofs.Following.Place.{renames_by, not_renames_by, few_harts}
use Rattle.core_state.proofs.state.State.in_rename_latch.Goals as goal

pub in_rename_latch-requires : goal.in_rename_latch-requires
in_rename_latch-requires c = few_harts c.self.inside c.self.invariant

pub returns-clause-there : goal.returns-clause-there
returns-clause-there c =
    renames_by c.self.inside c.self.invariant c.args.self.now c.self.view_is c.args.seq c.in_rename_latch.result
    c.in_rename_latch.ensures.inside c.in_rename_latch.ensures.some

pub returns-clause-nowhere : goal.returns-clause-nowhere
returns-clause-nowhere c =
    not_renames_by c.self.inside c.self.invariant c.args.self.now c.self.view_is c.args.seq c.in_rename_latch.result
    c.in_rename_latch.ensures.none
