use Rattle.std.proofs.Common.{◌≡◌, ℕ, Some, true, false, sym, ap, subst, ◌∙◌}
use Rattle.std.specs.Prelude.{is_some}
use Rattle.smt_model.specs.{Exec.Computed, Nexts.is_last, Bytes.read, Kinds.kind_of}
use Rattle.smt_model.specs.Reservations.{holds_word, word_of_address}
use Rattle.sc_machine.specs.Here.{computed_here}
use Rattle.program_ways.specs.Steps.{accesses_memory, location_of}
use Rattle.program_ways.specs.Keeping.{may_write, own_byte, IsNoCode}
use Rattle.program_ways.proofs.Coming.{goes_own, no_code_there, no_write_there}
use Rattle.program_ways.proofs.hart.Hart.access.Goals as goal
use Rattle.program_ways.proofs.hart.Hart.access.Goals.{else-writes-via-then-writes+else-is_code, else-writes-via-else-writes}

pub go_alone-requires-clause-alone : goal.go_alone-requires-clause-alone
go_alone-requires-clause-alone c =
    let p = c.args.program.now in
    let shared = c.args.shared.now in
    let op = c.args.op in
    let word = c.word_around-word.result in
    let writes : c.may_write-writes.result ≡ may_write (kind_of op) =
    c.may_write-writes.ensures ∙ ap may_write c.kind.ensures in
    let no_code : IsNoCode p op c.computed.inside.addr =
    elim c.else-writes.branch [
      | else-writes-via-then-writes+else-is_code w ↦ no_code_there p op c.computed.inside.addr word
          c.word_around-word.ensures (sym w.is_code.ensures ∙ w.if-is_code.false)
      | else-writes-via-else-writes w ↦ no_write_there p op c.computed.inside.addr
          (sym writes ∙ w.if-writes.false)
    ] in
    goes_own p shared c.args.self.now op c.args.computed c.requires.op
    (c.requires.computed ∙ ap (computed_here p.memory c.args.self.now.state) (sym c.requires.op)) c.requires.in_range
    c.requires.no_fault c.requires.goes c.own_number-number.result c.requires.accesses
    (subst (λ (d : Computed). is_some (location_of shared (word_of_address d.addr)) ≡ false) c.computed.view_is
    (subst (λ (a : ℕ). is_some (location_of shared a) ≡ false) c.word_around-word.ensures
    (ap is_some (sym c.location_of.ensures ∙ c.in_default.is))))
    (subst (λ (d : Computed). IsNoCode p op d.addr) c.computed.view_is no_code)
    (λ reads. c.own_number-number.ensures reads
    ∙ ap (λ (d : Computed). read op (own_byte p.memory.image c.args.self.now.own.items) d.addr) c.computed.view_is)

pub returns-clause-reached : goal.returns-clause-reached
returns-clause-reached c =
    let p = c.args.program.now in
    let shared = c.args.shared.now in
    let op = c.args.op in
    let word = c.word_around-word.result in
    let writes : c.may_write-writes.result ≡ may_write (kind_of op) =
    c.may_write-writes.ensures ∙ ap may_write c.kind.ensures in
    record {
      op = c.requires.op;
      address = ap (λ (d : Computed). d.addr) (c.computed.view_is ∙ c.requires.computed);
      in_range = c.requires.in_range;
      goes = subst (λ (d : Computed). is_last d.next ≡ false) c.requires.computed c.requires.goes;
      accesses = subst (λ (d : Computed). accesses_memory (kind_of op) (holds_word c.args.self.now.reserved d.addr) ≡ true)
          (sym c.computed.view_is) c.requires.accesses;
      location = subst (λ (a : ℕ). location_of shared a ≡ Some c.in-Some.location) c.word_around-word.ensures
          (sym c.location_of.ensures ∙ c.in-Some.is);
      whole = sym c.access_size.ensures.value ∙ c.if-access_size-ne4.false;
      code = elim c.else-writes.branch [
        | else-writes-via-then-writes+else-is_code w ↦ no_code_there p op c.computed.inside.addr word
            c.word_around-word.ensures (sym w.is_code.ensures ∙ w.if-is_code.false)
        | else-writes-via-else-writes w ↦ no_write_there p op c.computed.inside.addr
            (sym writes ∙ w.if-writes.false)
      ];
    }
