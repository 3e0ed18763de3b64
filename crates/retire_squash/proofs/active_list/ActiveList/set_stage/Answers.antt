use Rattle.std.proofs.Common.{◌≡◌, ◌<◌, ◌≤◌, ◌∙◌, length, sym, ap, subst}
use Rattle.std.proofs.lemmas.List.{with_items_is}
use Rattle.numbers.specs.Sizes.{most_in_flight}
use Rattle.retire_squash.specs.{Active.AreActivesRising, Ring.in_ring}
use Rattle.retire_squash.proofs.Rising.{IsRising-with_stage}
use Rattle.retire_squash.proofs.active_list.ActiveList.set_stage.Goals as goal

pub invariant_of-self : goal.invariant_of-self
invariant_of-self c =
    let s = c.self.inside in
    let ring = c.self.invariant in
    let items = s.places in
    let same_length = c.set_stage.ensures.length ∙ ap length c.as_mut_slice.ensures.value in
    subst (λ xs. (length xs ≡ most_in_flight) × (s.first < most_in_flight) × (s.count ≤ most_in_flight)
    × AreActivesRising (in_ring s.first s.count xs))
    (sym (with_items_is items c.set_stage.new.places (same_length ∙ sym items.ok.0))) (
      same_length ∙ ring.0,
      ring.1,
      ring.2,
      rw (c.set_stage.ensures.staged, c.as_mut_slice.ensures.value)
          (IsRising-with_stage c.args.seq c.args.stage (in_ring s.first s.count items.items) ring.3),
    )
