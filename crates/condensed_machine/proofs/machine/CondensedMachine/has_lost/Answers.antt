use Rattle.std.proofs.Common.{◌<◌, sym, subst, arith}
use Rattle.numbers.specs.Sizes.{most_harts}
use Rattle.condensed_machine.specs.Machine.{HasCode, HaveCode, Machine}
use Rattle.condensed_machine.specs.Decoded.{decoded}
use Rattle.condensed_machine.proofs.Coded.{code_at}
use Rattle.condensed_machine.proofs.machine.CondensedMachine.has_lost.Goals as goal
use Rattle.condensed_machine.proofs.machine.CondensedMachine.has_lost.Goals.{After-numbered_shared}

few : (c : After-numbered_shared) → c.args.hart < most_harts
few c =
    let inside : c.args.hart < c.self.inside.program.harts =
    subst (λ (m : Machine). c.args.hart < m.program.harts) (sym c.self.view_is) c.requires.hart in
    omega (arith, inside, c.self.invariant.sound.few)

code : (c : After-numbered_shared) → HasCode c.args.self.now.program.image (decoded c.args.self.now c.args.state).shared
code c =
    code_at c.args.self.now c.args.state
    (subst (λ (m : Machine). HaveCode m.program.image m.shared_states) c.self.view_is c.self.invariant.code)
    c.requires.known

pub has_reservation-requires : goal.has_reservation-requires
has_reservation-requires c = few (goal.at.has_reservation-requires c).After-numbered_shared

pub has_reservation-requires-then-has_reservation : goal.has_reservation-requires-then-has_reservation
has_reservation-requires-then-has_reservation c =
    few (goal.at.has_reservation-requires-then-has_reservation c).After-numbered_shared

pub returns-then-has_reservation-clause-code : goal.returns-then-has_reservation-clause-code
returns-then-has_reservation-clause-code c =
    code (goal.at.returns-then-has_reservation-clause-code c).After-numbered_shared

pub returns-else-has_reservation-clause-code : goal.returns-else-has_reservation-clause-code
returns-else-has_reservation-clause-code c =
    code (goal.at.returns-else-has_reservation-clause-code c).After-numbered_shared
