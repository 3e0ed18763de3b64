use Rattle.std.specs.Prelude.{◌≡◌, None, slice_index_or}
use Rattle.std.proofs.Common.{◌∙◌, sym, subst}
use Rattle.core_steps.proofs.Steps.Issue.Next.{found_ready, found_can, none_can, no_job}
use Rattle.core_steps.proofs.issue.next_to_issue.Goals as goal

pub returns-clause-ready : goal.returns-clause-ready
returns-clause-ready c =
    found_ready c.args.kind c.args.parts.now.queue.entries c.oldest_entry.result c.oldest_entry.ensures.value

pub returns-clause-some : goal.returns-clause-some
returns-clause-some c =
    let x = c.args.parts.now in
    let idle : slice_index_or x.jobs c.from.result None ≡ None =
    no_job (slice_index_or x.jobs c.from.result None) (sym c.is_some.ensures ∙ c.if-is_some.false) in
    found_can x c.args.actor c.args.kind c.oldest_entry.result c.requires
    (subst (λ i. slice_index_or x.jobs i None ≡ None) c.from.ensures idle)
    c.oldest_entry.ensures.oldest c.oldest_entry.ensures.value

pub returns-clause-none : goal.returns-clause-none
returns-clause-none c =
    none_can c.args.parts.now c.args.actor c.args.kind c.oldest_entry.result c.oldest_entry.ensures.value
