use Rattle.std.proofs.Common.{◌≡◌, ◌∙◌, sym, ap}
use Rattle.issue_queue.specs.Queue.{Queue, first_ready}
use Rattle.issue_queue.proofs.Rising.{IsOldest-answered}
use Rattle.issue_queue.proofs.Slots.{listed, rising}
use Rattle.issue_queue.proofs.Finding.{first-oldest, first-none}
use Rattle.issue_queue.proofs.slab_queue.SlabQueue.oldest_entry.Goals.{After-copied}
use Rattle.issue_queue.proofs.slab_queue.SlabQueue.oldest_entry.Goals as goal

-- the one that is found is the first that is ready
is_first : (c : After-copied) → c.copied.result ≡ first_ready c.args.kind (listed c.self.inside.parts.entries)
is_first c =
    let it = c.in-Some.ensures.some in
    c.copied.ensures ∙ c.get.ensures ∙ it.there
    ∙ sym (first-oldest c.self.inside.parts.entries c.self.invariant.sound.apart c.args.kind c.in-Some.key it)

pub returns-in-Some-clause-value : goal.returns-in-Some-clause-value
returns-in-Some-clause-value c =
    is_first (goal.at.returns-in-Some-clause-value c).After-copied
    ∙ ap (λ (q : Queue). first_ready c.args.kind q.entries) c.self.view_is

pub returns-in-Some-clause-oldest : goal.returns-in-Some-clause-oldest
returns-in-Some-clause-oldest c =
    rw (← c.self.view_is)
    (IsOldest-answered c.args.kind (listed c.self.inside.parts.entries) c.copied.result
    (rising c.self.inside.parts.entries c.self.invariant.sound.apart)
    (is_first (goal.at.returns-in-Some-clause-oldest c).After-copied))

pub returns-in-None-clause-value : goal.returns-in-None-clause-value
returns-in-None-clause-value c =
    sym (first-none c.self.inside.parts.entries c.self.invariant.sound.apart c.args.kind c.in-None.ensures.none)
    ∙ ap (λ (q : Queue). first_ready c.args.kind q.entries) c.self.view_is
