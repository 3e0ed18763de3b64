use Rattle.stuck_harts.proofs.Turning.{first_harts, whole_turn}
use Rattle.stuck_harts.proofs.spins.watch_turn.Goals as goal

pub returns-clause-shown : goal.returns-clause-shown
returns-clause-shown c = λ setup s agrees.
    c.shown_by-spin.ensures setup _
    (first_harts setup s c.args.hart c.args.machine.now c.go_up_to.new.machine c.in_ok-go_up_to.ensures agrees)

pub returns-clause-turned : goal.returns-clause-turned
returns-clause-turned c = λ setup s agrees inside.
    whole_turn setup s c.args.hart c.harts-harts.result c.go_up_to.new.machine c.go_up_to-2.new.machine
    c.harts-harts.ensures.value inside c.in_ok-go_up_to-2.ensures
    (first_harts setup s c.args.hart c.args.machine.now c.go_up_to.new.machine c.in_ok-go_up_to.ensures agrees)
