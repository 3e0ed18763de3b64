use Rattle.std.proofs.Common.{◌≡◌, ℕ, IfSome, refl, sym, ap, subst, ◌∙◌}
use Rattle.events.specs.declared.effect.Effect.{Effect}
use Rattle.smt_model.specs.{Exec.Computed, Bytes.read, Effects.effect_of, Reservations.holds_word}
use Rattle.shared_memory.specs.Contents.{CanWrite}
use Rattle.shared_memory.proofs.Writing.{can_write}
use Rattle.changed_memory.specs.Shared.{Shared, byte_at, reserved_at}
use Rattle.changed_memory.proofs.shared.SharedState.effect.Goals as goal

pub returns-clause-value : goal.returns-clause-value
returns-clause-value c =
    let image = c.args.start.now.image in
    let op = c.args.op in
    let bytes = byte_at image c.args.self.now in
    let addr : ℕ = c.computed.inside.addr in
    let now : ℕ = read op bytes addr in
    let held : c.is_on_word-held.result ≡ holds_word (reserved_at c.args.self.now c.args.hart) addr =
    c.is_on_word-held.ensures
    ∙ ap (λ reserved. holds_word reserved addr)
    (c.held_by.ensures ∙ ap (λ (s : Shared). reserved_at s c.args.hart) c.self.view_is) in
    c.effect_of.ensures now c.read-now.ensures
    ∙ ap (effect_of op c.args.computed now) held
    ∙ ap (λ (d : Computed). effect_of op c.args.computed (read op bytes d.addr)
    (holds_word (reserved_at c.args.self.now c.args.hart) d.addr)) c.computed.view_is

pub returns-clause-allowed : goal.returns-clause-allowed
returns-clause-allowed c =
    let image = c.args.start.now.image in
    let now = c.read-now.result in
    subst (λ (x : Effect). IfSome x.write (CanWrite image)) (sym (c.effect_of.ensures now (λ reads. refl)))
    (can_write image c.args.op c.args.computed now c.is_on_word-held.result c.requires.no_fault)
