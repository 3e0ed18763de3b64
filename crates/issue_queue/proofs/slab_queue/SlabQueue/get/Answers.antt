use Rattle.std.proofs.Common.{◌∙◌, ◌==◌, find, sym, ap}
use Rattle.issue_queue.specs.{Queue.Queue, declared.entry.Entry.Entry}
use Rattle.issue_queue.proofs.Finding.{found-number, found-none}
use Rattle.issue_queue.proofs.slab_queue.SlabQueue.get.Goals as goal

pub returns-in-Some : goal.returns-in-Some
returns-in-Some c =
    let it = c.in-Some.ensures.some in
    c.copied.ensures ∙ c.get.ensures ∙ it.there
    ∙ sym (found-number c.self.inside.parts.entries c.self.invariant.sound.apart c.args.seq c.in-Some.key it)
    ∙ ap (λ (q : Queue). find (λ (x : Entry). x.seq == c.args.seq) q.entries) c.self.view_is

pub returns-in-None : goal.returns-in-None
returns-in-None c =
    sym (found-none c.self.inside.parts.entries c.self.invariant.sound.apart c.args.seq c.in-None.ensures.none)
    ∙ ap (λ (q : Queue). find (λ (x : Entry). x.seq == c.args.seq) q.entries) c.self.view_is
