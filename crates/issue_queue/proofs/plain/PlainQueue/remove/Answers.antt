use Rattle.std.proofs.Common.{◌≡◌, false, ◌-◌, filter, length, sym, ap, ◌∙◌, subst, arith}
use Rattle.std.proofs.lemmas.List.{length-take}
use Rattle.arrayvec.specs.ArrayVec.{with_items}
use Rattle.issue_queue.specs.Queue.{has_number, is_other}
use Rattle.issue_queue.proofs.{Moving.has_removed, Moving.has_as_many}
use Rattle.issue_queue.proofs.{Rising.IsRising-filter, Rising.same_entries, Rising.without_none, Rising.without_place}
use Rattle.issue_queue.proofs.plain.PlainQueue.remove.Goals.{After-pop}
use Rattle.issue_queue.proofs.plain.PlainQueue.remove.Goals as goal

-- the one of this number is gone
others : (c : After-pop) → c.pop.new.self.items ≡ filter (is_other c.args.seq) c.self.inside.entries.items
others c =
    let lent = c.as_slice.ensures.value in
    let inside = rw lent at c.in-Some.ensures.inside in
    let there = rw lent at c.in-Some.ensures.there in
    has_removed c.self.inside.entries c.as_mut_slice.result.now c.close_gap.new.entries c.as_mut_slice.ensures.value
    c.close_gap.auto.entries c.in-Some.place c.pop.new.self.items c.close_gap.ensures c.pop.ensures.rest
    ∙ sym (without_place c.args.seq c.in-Some.place c.self.inside.entries.items c.self.invariant.2 inside there)

pub returns-in-Some : goal.returns-in-Some
returns-in-Some c =
    rw (← c.self.view_is)
    (same_entries c.self.inside.size c.pop.new.self.items
    (filter (is_other c.args.seq) c.self.inside.entries.items) (others c))

pub returns-in_default : goal.returns-in_default
returns-in_default c =
    let none = c.in_default.ensures.none in
    let lent = c.as_slice.ensures.value ∙ ap (λ q. q.entries) c.self.view_is in
    let kept = without_none c.args.seq c.args.self.now.entries
    (subst (λ xs. has_number c.args.seq xs ≡ false) lent none) in
    same_entries c.args.self.now.size c.args.self.now.entries
    (filter (is_other c.args.seq) c.args.self.now.entries) (sym kept)

pub invariant_of-self : goal.invariant_of-self
invariant_of-self c =
    let left = (with_items c.self.inside.entries c.close_gap.new.entries).items in
    let as_many = has_as_many c.self.inside.entries c.as_mut_slice.result.now c.close_gap.new.entries
    c.as_mut_slice.ensures.value c.close_gap.auto.entries in (
      c.self.invariant.0,
      omega (arith, as_many, c.self.invariant.1, ap length c.pop.ensures.rest, length-take (length left - 1) left),
      rw (others c) (IsRising-filter (is_other c.args.seq) c.self.inside.entries.items c.self.invariant.2),
    )
