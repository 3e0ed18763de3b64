use Rattle.std.proofs.Common.{◌≡◌, ℕ, Bool, ◌∙◌, sym, ap, subst, IfSome}
use Rattle.events.specs.declared.effect.Effect.{Effect}
use Rattle.smt_model.specs.{Exec.Computed, Bytes.read, Effects.effect_of, Reservations.holds_word}
use Rattle.shared_memory.specs.Contents.{CanWrite, byte_of, reserved_of}
use Rattle.shared_memory.proofs.Writing.{can_write}
use Rattle.sc_machine.specs.Access.{WritesAlone}
use Rattle.sc_machine.proofs.Accesses.{writes_alone}
use Rattle.sc_machine.proofs.effect.effect_here.Goals as goal

pub returns-clause-value : goal.returns-clause-value
returns-clause-value c =
    let m = c.args.memory.now in
    let op = c.args.op in
    let addr : ℕ = c.computed.inside.addr in
    let now : ℕ = read op (byte_of m) addr in
    c.effect_of.ensures now c.read-now.ensures
    ∙ ap (effect_of op c.args.computed now) c.holds_word-held.ensures
    ∙ ap (λ a. effect_of op c.args.computed (read op (byte_of m) a) (holds_word (reserved_of m c.args.hart) a))
    (ap (λ (d : Computed). d.addr) c.computed.view_is)

pub returns-clause-allowed : goal.returns-clause-allowed
returns-clause-allowed c =
    let m = c.args.memory.now in
    let now : ℕ = read c.args.op (byte_of m) c.args.computed.addr in
    let held : Bool = holds_word (reserved_of m c.args.hart) c.args.computed.addr in
    subst (λ (x : Effect). IfSome x.write (CanWrite m.image)) (sym (returns-clause-value c))
    (can_write m.image c.args.op c.args.computed now held c.requires.no_fault)

pub returns-clause-alone : goal.returns-clause-alone
returns-clause-alone c =
    let m = c.args.memory.now in
    let now : ℕ = read c.args.op (byte_of m) c.args.computed.addr in
    let held : Bool = holds_word (reserved_of m c.args.hart) c.args.computed.addr in
    subst WritesAlone (sym (returns-clause-value c)) (writes_alone c.args.op c.args.computed now held)
