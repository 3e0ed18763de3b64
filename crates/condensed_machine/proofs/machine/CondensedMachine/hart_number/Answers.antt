use Rattle.std.proofs.Common.{ℕ, ◌<◌, length, sym, subst, arith}
use Rattle.condensed_machine.specs.Machine.{Machine}
use Rattle.condensed_machine.specs.MachineInside.{machine_of}
use Rattle.condensed_machine.specs.Decoded.{Knows, numbers_of}
use Rattle.condensed_machine.proofs.machine.CondensedMachine.hart_number.Goals as goal

pub returns-clause-within : goal.returns-clause-within
returns-clause-within c =
    let m = machine_of c.self.inside in
    let knows = subst (λ m. Knows m c.args.state) (sym c.self.view_is) c.requires.known in
    let inside = subst (λ (m : Machine). c.args.hart < m.program.harts) (sym c.self.view_is) c.requires.hart in
    let there : c.args.hart < length (numbers_of m c.args.state) =
    omega (arith, inside, c.self.invariant.sound.few, knows.room) in
    subst (λ (m : Machine). c.number_in.result < length m.hart_states) c.self.view_is
    (subst (λ (n : ℕ). n < length m.hart_states) (sym c.number_in.ensures) (knows.harts c.args.hart there))
