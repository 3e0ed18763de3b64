use Rattle.std.proofs.Common.{sym, subst, ◌∙◌, false, ◌≡◌}
use Rattle.smt_model.specs.{Exec.Computed, Nexts.is_last, Kinds.kind_of}
use Rattle.smt_model.specs.Reservations.{holds_word}
use Rattle.program_ways.specs.Steps.{accesses_memory}
use Rattle.program_ways.proofs.Coming.{goes_without}
use Rattle.program_ways.proofs.hart.Hart.step.Goals as goal

pub go_alone-requires-clause-alone : goal.go_alone-requires-clause-alone
go_alone-requires-clause-alone c =
    let op = c.op_of-op.result in
    goes_without c.args.program.now c.args.shared.now c.args.self.now op c.computed-computed.result
    c.op_of-op.ensures.value c.computed-computed.ensures.value c.op_of-op.ensures.in_range
    c.computed-computed.ensures.no_fault
    (subst (λ (d : Computed). is_last d.next ≡ false) c.computed.view_is c.in_default.ensures)
    (subst (λ (d : Computed). accesses_memory (kind_of op) (holds_word c.args.self.now.reserved d.addr) ≡ false)
    c.computed.view_is (sym c.accesses.ensures ∙ c.if-not-accesses.true))
