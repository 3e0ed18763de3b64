use Rattle.std.proofs.Common.{ap, arith, sym, ◌∙◌}
use Rattle.smt_model.specs.Plain.{is_going_status}
use Rattle.stuck_harts.proofs.Turning.{goes_there}
use Rattle.stuck_harts.proofs.turns.goes.Goals as goal

pub returns-clause-value : goal.returns-clause-value
returns-clause-value c = λ setup s agrees.
    c.is_going.ensures ∙ ap is_going_status (c.status.ensures setup s agrees)
    ∙ sym (goes_there setup s c.args.hart c.harts.result c.args.machine.now agrees c.harts.ensures.value (omega arith))
