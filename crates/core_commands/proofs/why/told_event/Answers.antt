use Rattle.std.proofs.Common.{◌≡◌, sym, slice_index_or}
use mathlib.Core.Logic.{inr}
use Rattle.core_commands.proofs.OfTold.{event_told}
use Rattle.core_commands.proofs.why.told_event.Goals as goal

pub returns-in-Ok : goal.returns-in-Ok
returns-in-Ok c = λ setup at.
    let event = c.in-Some.event.now in
    let there : slice_index_or c.args.trace.now.events c.args.index event ≡ event =
    rw (sym c.events.ensures) (sym c.in-Some.ensures.lookup.1) in
    inr (event_told setup c.args.trace.now c.args.stopped event event c.args.index c.args.rule _ at
    c.if-place-index.false c.if-broken-rule.false there
    (rw (sym c.head.ensures, sym c.line_count.ensures) c.in-Ok.ensures))
