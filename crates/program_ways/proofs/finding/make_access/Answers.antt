use Rattle.std.proofs.Common.{List, length, refl, ap, ◌∙◌}
use Rattle.litmus_runs.specs.declared.access.Access.{Access}
use Rattle.smt_model.specs.Kinds.{kind_of}
use Rattle.litmus_runs.specs.Steps.{reserving_behind}
use Rattle.program_ways.specs.declared.hart.Hart.{Hart}
use Rattle.program_ways.proofs.Moving.{shared_behind}
use Rattle.program_ways.proofs.finding.make_access.Goals as goal

pub returns-clause-way : goal.returns-clause-way
returns-clause-way c = λ shared can _.
    let way = can.way in
    let hart = c.args.hart.now in
    let op = c.args.sharing.now.op in
    let mid : Hart = record hart { accesses = c.push.new.self; reserving = c.reserving-hart.result } in
    shared_behind c.args.program.now shared c.requires.program way.way hart way.on way.keeps c.args.sharing.now
    c.computed-computed.result c.args.found can.at c.computed-computed.ensures.value c.computed-computed.ensures.no_fault
    can.place can.number c.effect_of-effect.result c.in-Some.step c.in-Some-access_of.access mid c.advance.new.self
    (c.effect_of-effect.ensures c.args.found.number (λ _. refl)) c.in-Some.ensures c.in-Some-access_of.ensures
    (record { state = refl; index = refl; reserved = refl }) refl c.in_ok-push.ensures.items
    (c.reserving-hart.ensures
    ∙ ap (reserving_behind (kind_of op) hart.reserving)
    (ap (λ (xs : List Access). length xs) c.as_slice-count.ensures.value)) c.advance.ensures
