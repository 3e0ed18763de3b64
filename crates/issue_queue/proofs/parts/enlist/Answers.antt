use Rattle.std.proofs.Common.{◌∙◌, sym, subst, slice_index}
use Rattle.issue_queue.specs.{Waiting.IsLinked, Waiting.with_register, Parts.register_of}
use Rattle.issue_queue.proofs.Following.{none_some}
use Rattle.issue_queue.proofs.Agreeing.{links_but}
use Rattle.issue_queue.proofs.Waking.{listed-some, listed-none}
use Rattle.issue_queue.proofs.parts.enlist.Goals as goal

pub returns-in-Some : goal.returns-in-Some
returns-in-Some c =
    λ waits linked free.
    let some = listed-some c.args.source c.in-Some.register c.in-Some.ensures in
    subst (λ o. IsLinked c.push.new.self (with_register waits c.args.node o)) (sym some.0)
    (c.push.ensures waits linked free)

pub returns-in_default : goal.returns-in_default
returns-in_default c =
    λ waits linked free.
    links_but (slice_index c.args.waiting.now.next) (slice_index c.args.waiting.now.before) waits c.args.node
    (register_of c.args.source) (λ r known is. none_some r (sym free ∙ is))
    (listed-none c.args.source c.in_default.ensures) linked
