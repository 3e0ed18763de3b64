use Rattle.std.proofs.Common.{IfSome, subst, ◌∙◌}
use Rattle.condensed_machine.specs.Machine.{Machine}
use Rattle.condensed_machine.specs.Moves.{IsMoveOf}
use Rattle.condensed_machine.proofs.Noted.{found_is}
use Rattle.condensed_machine.proofs.machine.CondensedMachine.noted_move.Goals as goal

pub returns : goal.returns
returns c =
    let a = c.self.inside in
    subst (λ (m : Machine). IfSome c.copied.result (IsMoveOf m c.args.from)) c.self.view_is
    (found_is a.program a.hart_states.keys a.shared_states.keys a.moves.entries c.args.from c.copied.result
    (c.copied.ensures ∙ c.get.ensures.value) c.self.invariant.moves)
