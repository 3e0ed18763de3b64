use Rattle.std.proofs.Common.{◌<◌, refl, sym, ap, subst, ◌∙◌}
use Rattle.smt_model.specs.Plain.{is_going_status}
use Rattle.sc_machine.specs.declared.hart.Hart.{Hart}
use Rattle.condensed_machine.specs.Machine.{Grows, IsSound, Program}
use Rattle.condensed_machine.specs.Learning.{learns_more, still_knows}
use Rattle.condensed_machine.specs.declared.moves.MoveFrom.{MoveFrom}
use Rattle.condensed_machine.proofs.Noted.{goes_on, knows_next}
use Rattle.condensed_machine.proofs.WholeStep.{moves_have_code, whole_step}
use Rattle.condensed_machine.proofs.machine.CondensedMachine.make_step.Goals as goal
use Rattle.condensed_machine.proofs.machine.CondensedMachine.make_step.Goals.{After-followed, After-moved_to}

pub move_from-requires-clause-shared : goal.move_from-requires-clause-shared
move_from-requires-clause-shared c = c.requires.known.shared

pub moved_to-requires-clause-hart : goal.moved_to-requires-clause-hart
moved_to-requires-clause-hart c =
    subst (λ (p : Program). c.args.hart < p.harts) (sym c.move_from.ensures.grows.program) c.requires.hart

pub moved_to-requires-clause-known : goal.moved_to-requires-clause-known
moved_to-requires-clause-known c =
    still_knows c.args.self.now c.move_from.new.self c.args.state c.move_from.ensures.grows c.requires.known

pub followed-requires-clause-before : goal.followed-requires-clause-before
followed-requires-clause-before c =
    still_knows c.args.self.now c.moved_to.new.self c.args.state
    (learns_more c.args.self.now c.move_from.new.self c.moved_to.new.self c.move_from.ensures.grows
    c.moved_to.ensures.grows)
    c.requires.known

abbrev from : After-moved_to → MoveFrom
from c = record { hart = c.args.hart; number = c.hart_number-number.result; shared = c.args.state.shared }

sound : (c : After-moved_to) → IsSound c.move_from.new.self.program
sound c = subst IsSound c.moved_to.ensures.grows.program c.moved_to.ensures.sound

pub followed-requires-clause-known : goal.followed-requires-clause-known
followed-requires-clause-known c =
    let at = (goal.at.followed-requires-clause-known c).After-moved_to in
    knows_next c.args.self.now c.move_from.new.self c.moved_to.new.self c.args.state c.in_ok-next.next
    c.args.hart (from at) c.in_ok-to.to (sound at) c.move_from.ensures.grows c.moved_to.ensures.grows
    c.requires.known c.requires.hart c.in_ok-to.ensures.is_move refl c.hart_number-number.ensures.value refl
    (ap (λ (x : Hart). is_going_status x.status) (sym c.hart.ensures)
    ∙ (sym c.is_going.ensures ∙ c.if-not-is_going.false))
    c.in_ok-next.ensures.moved

pub returns-in_err-next-clause-grows : goal.returns-in_err-next-clause-grows
returns-in_err-next-clause-grows c =
    learns_more c.args.self.now c.move_from.new.self c.moved_to.new.self c.move_from.ensures.grows
    c.moved_to.ensures.grows

all_grows : (c : After-followed) → Grows c.args.self.now c.followed.new.self
all_grows c =
    let own =
    learns_more c.args.self.now c.move_from.new.self c.moved_to.new.self c.move_from.ensures.grows
    c.moved_to.ensures.grows in
    learns_more c.args.self.now c.moved_to.new.self c.followed.new.self own c.followed.ensures.grows

pub returns-in_err-followed-clause-grows : goal.returns-in_err-followed-clause-grows
returns-in_err-followed-clause-grows c =
    all_grows (goal.at.returns-in_err-followed-clause-grows c).After-followed

pub returns-clause-grows : goal.returns-clause-grows
returns-clause-grows c = all_grows (goal.at.returns-clause-grows c).After-followed

pub returns-clause-steps : goal.returns-clause-steps
returns-clause-steps c =
    let at = (goal.at.returns-clause-steps c).After-moved_to in
    let k = c.move_from.new.self in
    let n = c.moved_to.new.self in
    let q = c.followed.new.self in
    let s = c.args.state in
    let known = still_knows c.args.self.now k s c.move_from.ensures.grows c.requires.known in
    whole_step k n q s c.in_ok-next.next c.args.hart c.in_ok-to.to.steps c.in_ok-followed.followed (sound at)
    c.moved_to.ensures.grows c.followed.ensures.grows known
    (moves_have_code k s (from at) c.in_ok-to.to refl c.in_ok-to.ensures.is_move)
    (goes_on c.args.self.now k n s c.in_ok-next.next c.args.hart (from at) c.in_ok-to.to (sound at)
    c.move_from.ensures.grows c.moved_to.ensures.grows c.requires.known c.requires.hart
    c.in_ok-to.ensures.is_move refl c.hart_number-number.ensures.value refl
    (ap (λ (x : Hart). is_going_status x.status) (sym c.hart.ensures)
    ∙ (sym c.is_going.ensures ∙ c.if-not-is_going.false))
    c.in_ok-next.ensures.moved)
    c.in_ok-followed.ensures.followed c.in_ok-followed.ensures.knows
