use Rattle.std.proofs.Common.{◌∙◌, None, sym, slice_index}
use Rattle.issue_queue.proofs.Following.{none_some}
use Rattle.issue_queue.proofs.Agreeing.{links_but}
use Rattle.issue_queue.proofs.Waking.{listed-some, listed-none}
use Rattle.issue_queue.proofs.parts.unlink.Goals as goal

pub remove-requires-clause-there : goal.remove-requires-clause-there
remove-requires-clause-there c =
    let some = listed-some c.args.source c.in-Some._register c.in-Some.ensures in
    c.requires.there c.in-Some._register some.0 some.1

pub returns-in-Some : goal.returns-in-Some
returns-in-Some c =
    λ waits linked there.
    let some = listed-some c.args.source c.in-Some._register c.in-Some.ensures in
    c.remove.ensures waits c.in-Some._register linked some.1 (there ∙ some.0)

pub returns-in_default : goal.returns-in_default
returns-in_default c =
    λ waits linked there.
    links_but (slice_index c.args.waiting.now.next) (slice_index c.args.waiting.now.before) waits c.args.node None
    (λ r known is. listed-none c.args.source c.in_default.ensures r known (sym there ∙ is))
    (λ r known is. none_some r is) linked
