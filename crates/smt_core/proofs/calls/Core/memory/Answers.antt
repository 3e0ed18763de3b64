use Rattle.std.specs.Prelude.{◌≡◌, ℕ}
use Rattle.std.proofs.Common.{subst, ◌∙◌}
use Rattle.smt_model.specs.Memory.{byte_at, reserved}
use Rattle.shared_memory.specs.Contents.{byte_of, reserved_of}
use Rattle.core_state.specs.View.{CoreView}
use Rattle.smt_core.proofs.Headline.{memory_answered}
use Rattle.smt_core.proofs.calls.Core.memory.Goals as goal

pub returns-clause-sequential : goal.returns-clause-sequential
returns-clause-sequential c =
    let m = c.memory.result.now in
    let is = c.deref.ensures ∙ c.self.view_is in
    memory_answered c.args.self.now m c.refines_the_plain_machine.ensures.sequential
    c.history-events.ensures.legal
    (subst (λ (v : CoreView). (addr : ℕ) → byte_of m addr ≡ byte_at v.setup v.past addr) is
    c.memory.ensures.bytes)
    (subst (λ (v : CoreView). (h : ℕ) → reserved_of m h ≡ reserved v.past h) is c.memory.ensures.reserved)
