use Rattle.std.proofs.Common.{arith}
use Rattle.std.proofs.lemmas.Bool.Decides.{nat_tests}
use Rattle.sim_inputs.proofs.Names.{length_named, value_named}
use Rattle.sim_inputs.proofs.roles.roles_of.Goals as goal

pub returns-then-not-contains-clause-none : goal.returns-then-not-contains-clause-none
returns-then-not-contains-clause-none c = λ roles named least most.
    let same = length_named c.args.names.now.items roles named in grind (arith, nat_tests)

pub returns-in_default-clause-none : goal.returns-in_default-clause-none
returns-in_default-clause-none c = λ roles named least most.
    let one =
    value_named c.args.names.now.items c.deref-name-items.result.now roles c.loop-name.name-index c.name-item.result
    c.deref-name-items.ensures.value c.name-item.is c.loop-name-test.true named in
    c.in_default.ensures.none one.0 one.1
