use Rattle.std.proofs.Common.{ap, ◌∙◌}
use Rattle.scripts.proofs.Asking.{all_dealt}
use Rattle.scripts.proofs.session.asked_core.AskedCore.new.Goals as goal

pub invariant_of-result : goal.invariant_of-result
invariant_of-result g c =
    let dealt = c.new-held.ensures in
    let told =
    all_dealt (λ p. p.actor) (λ p. p.count) (λ p. p.last) c.args.core.past c.new-held.result.1 dealt.actors dealt.counts
    dealt.lasts in
    rw dealt.core told

pub returns : goal.returns
returns g c =
    ap (λ core. record { core = core; idle = c.new-held.result.0.idle.each }) c.new-held.ensures.core
    ∙ ap (λ l. record { core = c.args.core; idle = l }) c.new-held.ensures.idle
