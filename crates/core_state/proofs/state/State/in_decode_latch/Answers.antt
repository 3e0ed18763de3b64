-- Where the parts have it is where the history has it.
use Rattle.core_state.proofs.Following.Place.{decodes_by, not_decodes_by, few_harts}
use Rattle.core_state.proofs.state.State.in_decode_latch.Goals as goal

pub in_decode_latch-requires : goal.in_decode_latch-requires
in_decode_latch-requires c = few_harts c.self.inside c.self.invariant

pub returns-clause-there : goal.returns-clause-there
returns-clause-there c =
    decodes_by c.self.inside c.self.invariant c.args.self.now c.self.view_is c.args.seq c.in_decode_latch.result
    c.in_decode_latch.ensures.inside c.in_decode_latch.ensures.some

pub returns-clause-nowhere : goal.returns-clause-nowhere
returns-clause-nowhere c =
    not_decodes_by c.self.inside c.self.invariant c.args.self.now c.self.view_is c.args.seq c.in_decode_latch.result
    c.in_decode_latch.ensures.none
