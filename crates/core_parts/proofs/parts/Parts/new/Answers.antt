-- The parts before the first event agree with the empty history.
use Rattle.std.proofs.Common.{None, refl, ap, subst}
use Rattle.std.proofs.{lemmas.List.get_or-replicate}
use Rattle.numbers.specs.Sizes.{most_actors}
use Rattle.issue_queue.specs.Queue.{Queue}
use Rattle.core_parts.specs.First.{AreNew}
use Rattle.core_parts.proofs.Agreement.Beginning.{begins}
use Rattle.core_parts.proofs.parts.Parts.new.Goals as goal

pub returns-clause-begins : goal.returns-clause-begins
returns-clause-begins c =
    let each = c.in_ok-first_harts in
    begins c.args.harts c.args.extra c.args.image.now _ each.ensures.count
    (subst (λ e. AreNew e each.field-0.items) c.entry.ensures.value each.ensures.first)
    (ap (λ (q : Queue). q.entries) c.in_ok-new.ensures) c.new-2.ensures c.in_ok-first_registers.ensures.count
    c.in_ok-first_registers.ensures.first refl (λ k d inside. get_or-replicate most_actors k None d inside)
    c.requires.harts_fit c.in_ok-new-2.ensures.count c.in_ok-new-2.ensures.none c.in_ok-new-3.ensures
