use Rattle.std.proofs.Common.{refl, sym, subst, IfSome}
use Rattle.smt_model.specs.{Words.Effect, Exec.Computed}
use Rattle.shared_memory.specs.Contents.{CanWrite}
use Rattle.shared_memory.proofs.Writing.{can_write}
use Rattle.program_ways.specs.declared.hart.Hart.{Hart}
use Rattle.program_ways.specs.Keeping.{HasAdvanced}
use Rattle.program_ways.proofs.Moving.{alone_behind}
use Rattle.program_ways.proofs.hart.Hart.go_alone.Goals as goal

pub write_own-requires-clause-write : goal.write_own-requires-clause-write
write_own-requires-clause-write c =
    let image = c.args.program.now.memory.image in
    subst (λ (x : Effect). IfSome x.write (CanWrite image)) (sym (c.effect_of-effect.ensures c.args.number (λ _. refl)))
    (can_write image c.args.op c.args.computed c.args.number c.args.held c.requires.alone.no_fault)

pub returns-clause-way : goal.returns-clause-way
returns-clause-way c =
    let way = c.requires.way in
    let mid : Hart = record c.args.self.now { own = c.write_own.new.own } in
    alone_behind c.args.program.now c.args.shared.now c.requires.program way.way c.args.self.now way.on way.keeps
    c.args.op c.args.computed c.args.number c.args.held c.requires.alone c.effect_of-effect.result mid
    c.advance.new.self (c.effect_of-effect.ensures c.args.number (λ _. refl))
    (record { state = refl; index = refl; reserved = refl }) refl refl
    (λ addr inside. c.in_ok-write_own.ensures addr inside)
    (subst (λ (d : Computed). HasAdvanced c.args.op d.addr c.effect_of-effect.result mid c.advance.new.self)
    c.computed.view_is c.advance.ensures)
