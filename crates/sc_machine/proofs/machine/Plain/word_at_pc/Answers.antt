use Rattle.std.proofs.Common.{◌<◌, length, get_or, sym, ap, subst, ◌∙◌}
use Rattle.shared_memory.specs.Contents.{byte_of}
use Rattle.sc_machine.specs.{Harts.HartAgrees, Machine.Machine, Machine.Agrees, MachineInside.machine_of}
use Rattle.sc_machine.proofs.Executing.{word_same}
use Rattle.sc_machine.proofs.machine.Plain.word_at_pc.Goals as goal

pub returns : goal.returns
returns c = λ setup s agrees.
    let h = c.args.hart in
    let m = machine_of c.self.inside in
    let x = c.index.result.now in
    let here : Agrees setup s m = subst (Agrees setup s) (sym c.self.view_is) agrees in
    let inside : h < length m.harts =
    subst (λ (m : Machine). h < length m.harts) (sym c.self.view_is) c.requires in
    let at = c.index.ensures ∙ ap (λ i. get_or m.harts i x) c.from.ensures in
    c.word_at.ensures m.memory.image (byte_of m.memory) c.self.invariant.code
    ∙ word_same setup s m h x here (subst (HartAgrees s h) (sym at) (here.each h x inside))
