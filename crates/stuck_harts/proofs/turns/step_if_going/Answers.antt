use Rattle.std.proofs.Common.{sym, ◌∙◌}
use Rattle.stuck_harts.proofs.Turning.{went}
use Rattle.stuck_harts.proofs.turns.step_if_going.Goals as goal

pub returns-in-Ok : goal.returns-in-Ok
returns-in-Ok c = λ setup s agrees.
    went setup s c.args.hart c.in-Ok.field-0 c.args.machine.now c.make_room.new.self c.step.new.self _
    (sym (c.goes.ensures.value setup s agrees) ∙ c.if-not-goes.false) c.make_room.ensures.same c.in-Ok.ensures.done agrees
