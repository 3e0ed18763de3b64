use Rattle.std.proofs.Common.{◌∙◌}
use Rattle.chart_registers.proofs.Found.{all_found, below_first, below_second, gathered, never_missing}
use Rattle.chart_registers.proofs.finding.registers_by.Goals as goal

pub unreachable-requires : goal.unreachable-requires
unreachable-requires c =
    never_missing c.args.core.now c.requires.legal c.args.actor c.args.seq c.args.phys c.requires.allowed
    c.in_default.ensures.none

pub source_of-requires-clause-register : goal.source_of-requires-clause-register
source_of-requires-clause-register c =
    let it = c.in-Some.ensures.some in below_first _ _ it.instruction it.is c.first_source-first.ensures

pub other_source_of-requires-clause-register : goal.other_source_of-requires-clause-register
other_source_of-requires-clause-register c =
    let it = c.in-Some.ensures.some in below_second _ _ it.instruction it.is c.second_source-second.ensures

pub returns : goal.returns
returns c =
    let it = c.in-Some.ensures.some in
    let core = c.args.core.now in
    gathered core.past c.in-Some.hart c.in-Some.op c.args.phys _ _ _ _ _ c.destination_of.ensures
    c.first_source-first.ensures c.second_source-second.ensures c.source_of.ensures c.other_source_of.ensures
    ∙ all_found core.setup core.past c.requires.legal c.args.actor c.args.seq c.args.phys c.requires.allowed
    c.in-Some.hart c.in-Some.op it.instruction it.fetched it.hart it.is
