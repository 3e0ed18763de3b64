use Rattle.address_labels.specs.Labels.{marks_of}
use Rattle.std.proofs.Common.{◌<◌, length, sym, subst, ◌∙◌}
use Rattle.sc_machine.specs.Machine.{Agrees}
use Rattle.rounds.proofs.Stepping.{held, made_more, roomier, stands}
use Rattle.rounds.proofs.turn.take_turn.Goals as goal

pub returns-in-Err-clause-made : goal.returns-in-Err-clause-made
returns-in-Err-clause-made g c = λ setup before agrees.
    let has = c.loop-made.invariant setup before agrees in
    roomier setup before c.args.hart c.loop-made.made _ c.args.records (marks_of c.args.labels.now) (g.W.Write.contents c.args.out.now)
    (g.W.Write.contents c.loop-made.out) c.loop-made.machine c.make_room.new.self c.step.new.self has
    c.make_room.ensures.same c.in-Err.ensures.unchanged

pub returns-in-Err-clause-stands : goal.returns-in-Err-clause-stands
returns-in-Err-clause-stands g c = λ less setup s agrees.
    let free : length c.make_room.new.self.output < c.make_room.new.self.room =
    held c.make_room.result _ (sym c.is_err.ensures.value ∙ c.if-is_err.false) c.make_room.ensures.room in
    stands c.args.hart c.in-Err.field-0 c.make_room.new.self free c.in-Err.ensures.refused setup s
    (subst (Agrees setup s) c.in-Err.ensures.unchanged agrees)

pub loop-made-preserved : goal.loop-made-preserved
loop-made-preserved g c = λ setup before agrees.
    made_more setup before c.args.hart c.loop-made.made _ c.args.records (marks_of c.args.labels.now) (g.W.Write.contents c.args.out.now)
    (g.W.Write.contents c.loop-made.out) (g.W.Write.contents c.show.new.out) c.in-Ok.record c.loop-made.machine
    c.make_room.new.self c.step.new.self (c.loop-made.invariant setup before agrees) c.make_room.ensures.same
    c.in-Ok.ensures.done c.in_ok-show-in-Ok.ensures
