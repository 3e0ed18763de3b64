use Rattle.std.proofs.Common.{◌∙◌}
use Rattle.core_state.proofs.Views.FreeRegisters.{free_of, once_of}
use Rattle.core_state.proofs.state.State.free_registers.Goals as goal

pub returns-clause-free : goal.returns-clause-free
returns-clause-free c = c.registers_in.ensures ∙ free_of c.self.inside c.args.self.now c.self.invariant c.self.view_is

pub returns-clause-once : goal.returns-clause-once
returns-clause-once c =
    once_of c.self.inside c.args.self.now c.registers_in.result.items c.self.invariant c.self.view_is
    (c.registers_in.ensures ∙ free_of c.self.inside c.args.self.now c.self.invariant c.self.view_is)
