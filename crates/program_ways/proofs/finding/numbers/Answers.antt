use Rattle.std.proofs.Common.{List, subst}
use Rattle.std.proofs.lemmas.List.Elements.{All-push}
use Rattle.program_ways.specs.declared.known.Held.{Held}
use Rattle.program_ways.specs.Keeping.{IsOneOf}
use Rattle.program_ways.proofs.Listing.{one_of_them}
use Rattle.program_ways.proofs.finding.numbers.Goals as goal
use Rattle.program_ways.proofs.finding.numbers.Goals.{then-held-location+in_ok-push, else-held-location}

pub loop-held-preserved : goal.loop-held-preserved
loop-held-preserved c = elim c.if-held-location.branch [
  | then-held-location+in_ok-push w ↦
      rw (w.all-is, w.in_ok-push.ensures.items)
      (All-push (IsOneOf c.args.known.now.held.items c.args.location) c.loop-held.all.items w.found_at.result
      c.loop-held.invariant
      (subst (λ (xs : List Held). IsOneOf xs c.args.location w.found_at.result) c.deref-held-items.ensures.value
      (one_of_them c.deref-held-items.result.now c.args.location c.loop-held.held-index _ w.found_at.result
      c.loop-held-test.true w.if-held-location.true w.found_at.ensures.number w.found_at.ensures.location)))
  | else-held-location w ↦ rw w.all-is c.loop-held.invariant
]
