use Rattle.std.proofs.Common.{ap, reverse, take}
use Rattle.smt_model.specs.Rules.{is_legal}
use Rattle.core_state.specs.Setup.{setup_of}
use Rattle.core_state.specs.View.{CoreView}
use Rattle.chart_registers.proofs.Followed.{allowed_in, in_core, legal_at}
use Rattle.chart_registers.proofs.table.registers_of.Goals as goal

pub note-requires-clause-legal : goal.note-requires-clause-legal
note-requires-clause-legal c =
    let events = c.args.events.now in
    in_core is_legal (reverse (take c.loop-index.index events)) c.loop-index.core c.in-Ok.core
    (setup_of c.args.image.now c.args.config) (ap (λ (v : CoreView). v.setup) c.in-Ok.ensures.made)
    c.loop-index.invariant.core (legal_at _ events c.loop-index.index c.requires.legal)

pub note-requires-clause-allowed : goal.note-requires-clause-allowed
note-requires-clause-allowed c =
    allowed_in c.args.events.now c.loop-index.index _ c.loop-index.core c.in-Ok.core
    (setup_of c.args.image.now c.args.config) (ap (λ (v : CoreView). v.setup) c.in-Ok.ensures.made) c.requires.legal
    c.loop-index.invariant.core c.loop-index-test.true

pub follow-requires-clause-allowed : goal.follow-requires-clause-allowed
follow-requires-clause-allowed c =
    allowed_in c.args.events.now c.loop-index.index _ c.loop-index.core c.in-Ok.core
    (setup_of c.args.image.now c.args.config) (ap (λ (v : CoreView). v.setup) c.in-Ok.ensures.made) c.requires.legal
    c.loop-index.invariant.core c.loop-index-test.true
