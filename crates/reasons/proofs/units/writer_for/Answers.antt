use Rattle.std.proofs.Common.{refl}
use Rattle.reasons.proofs.Waiting.{awaited_in, entry_there, number_of, one_found, stage_of}
use Rattle.reasons.proofs.units.writer_for.Goals as goal

pub hart_of-requires : goal.hart_of-requires
hart_of-requires c =
    entry_there c.args.core.now.setup c.args.core.now.past c.history.ensures.legal c.args.entry.now c.requires.entry

pub unreachable-requires : goal.unreachable-requires
unreachable-requires c =
    one_found c.args.core.now.setup c.args.core.now.past c.args.entry.now c.holder_of.result
    (awaited_in c.args.core.now.setup c.args.core.now.past c.history.ensures.legal c.args.entry.now c.requires.entry
    c.requires.waits c.hart_of.result.now c.hart_of.ensures _ refl _ c.first_waiting.ensures
    c.holder_of.result c.holder_of.ensures) c.in-None.is

pub returns-clause-stage : goal.returns-clause-stage
returns-clause-stage c =
    stage_of c.args.core.now.setup c.args.core.now.past c.args.entry.now c.holder_of.result
    (awaited_in c.args.core.now.setup c.args.core.now.past c.history.ensures.legal c.args.entry.now c.requires.entry
    c.requires.waits c.hart_of.result.now c.hart_of.ensures _ refl _ c.first_waiting.ensures
    c.holder_of.result c.holder_of.ensures) c.in-Some.writer c.in-Some.is

pub returns-clause-writer : goal.returns-clause-writer
returns-clause-writer c =
    number_of c.args.core.now.setup c.args.core.now.past c.args.entry.now c.holder_of.result
    (awaited_in c.args.core.now.setup c.args.core.now.past c.history.ensures.legal c.args.entry.now c.requires.entry
    c.requires.waits c.hart_of.result.now c.hart_of.ensures _ refl _ c.first_waiting.ensures
    c.holder_of.result c.holder_of.ensures) c.in-Some.writer c.in-Some.is
