use Rattle.std.proofs.Common.{◌<◌, length, get_or, sym, ap, subst, ◌∙◌}
use Rattle.sc_machine.specs.{Harts.HartAgrees, Machine.Machine, Machine.Agrees, MachineInside.machine_of}
use Rattle.sc_machine.proofs.Executing.{execution_is}
use Rattle.sc_machine.proofs.machine.Plain.execution.Goals as goal

pub returns-clause-is : goal.returns-clause-is
returns-clause-is c = λ setup s agrees.
    let h = c.args.hart in
    let m = machine_of c.self.inside in
    let x = c.index.result.now in
    let here : Agrees setup s m = subst (Agrees setup s) (sym c.self.view_is) agrees in
    let inside : h < length m.harts =
    subst (λ (m : Machine). h < length m.harts) (sym c.self.view_is) c.requires in
    let at = c.index.ensures ∙ ap (λ i. get_or m.harts i x) c.from.ensures in
    execution_is setup s m h x here (subst (HartAgrees s h) (sym at) (here.each h x inside)) c.next_execution.result
    c.next_execution.ensures.is c.next_execution.ensures.allowed
