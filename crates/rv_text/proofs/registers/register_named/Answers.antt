use Rattle.std.proofs.Common.{◌≡◌, ℕ, ◌≤◌, ◌<◌, ◌⊎◌, List, inl, inr, arith}
use Rattle.rv_text.specs.Registers.{abi_name, x_name, IsNameOf}
use Rattle.rv_text.proofs.RegisterNames.{another_name}
use Rattle.rv_text.proofs.registers.register_named.Goals as goal

pub loop-register-init : goal.loop-register-init
loop-register-init c = λ r is. is.first

pub loop-register-preserved : goal.loop-register-preserved
loop-register-preserved c =
    another_name c.args.name.now c.loop-register.register c.loop-register.invariant
    (c.is_name_of.ensures.other c.if-is_name_of.false)

pub returns-clause-none : goal.returns-clause-none
returns-clause-none c = λ r is.
    let past = c.loop-register.invariant r is in
    let last = is.last in
    let end = c.loop-register-test.false in absurd (omega arith)
