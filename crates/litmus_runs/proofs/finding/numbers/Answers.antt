use Rattle.std.proofs.Common.{◌≤◌, List, length, take, Contains, subst, sym, ◌+◌, ◌++◌, ◌∷◌, []}
use Rattle.std.proofs.lemmas.List.Elements.{All-push}
use Rattle.litmus_runs.specs.declared.known.Held.{Held}
use Rattle.litmus_runs.specs.declared.finding.Found.{Found}
use Rattle.litmus_runs.specs.Ways.{IsOneOf}
use Rattle.litmus_runs.proofs.Listing.{one_of_them}
use Rattle.litmus_runs.proofs.Finds.{all_listed, listed_more, listed_less}
use Rattle.litmus_runs.proofs.finding.numbers.Goals as goal
use Rattle.litmus_runs.proofs.finding.numbers.Goals.{then-held-location+in_ok-push, else-held-location}

pub loop-held-preserved : goal.loop-held-preserved
loop-held-preserved c =
    let items = c.deref-held-items.result.now in
    let same = c.deref-held-items.ensures.value in
    let location = c.args.location in
    elim c.if-held-location.branch [
      | then-held-location+in_ok-push w ↦
          rw (w.all-is, w.in_ok-push.ensures.items) record {
            each = All-push (IsOneOf c.args.known.now.held.items location) c.loop-held.all.items w.found_at.result
                c.loop-held.invariant.each
                (subst (λ (xs : List Held). IsOneOf xs location w.found_at.result) same
                (one_of_them items location c.loop-held.held-index _ w.found_at.result
                c.loop-held-test.true w.if-held-location.true w.found_at.ensures.number w.found_at.ensures.held
                w.found_at.ensures.location));
            all = subst (λ (xs : List Held). (one : Found) → IsOneOf (take (c.loop-held.held-index + 1) xs) location one → Contains (c.loop-held.all.items ++ w.found_at.result ∷ []) one) same
                (listed_more items location c.loop-held.held-index _ c.loop-held.all.items w.found_at.result
                c.loop-held-test.true w.found_at.ensures.number w.found_at.ensures.held w.found_at.ensures.location
                (subst (λ (xs : List Held). (one : Found) → IsOneOf (take c.loop-held.held-index xs) location one → Contains c.loop-held.all.items one) (sym same) c.loop-held.invariant.all));
          }
      | else-held-location w ↦ rw w.all-is record {
        each = c.loop-held.invariant.each;
        all = subst (λ (xs : List Held). (one : Found) → IsOneOf (take (c.loop-held.held-index + 1) xs) location one → Contains c.loop-held.all.items one) same
            (listed_less items location c.loop-held.held-index _ c.loop-held.all.items
            c.loop-held-test.true w.if-held-location.false
            (subst (λ (xs : List Held). (one : Found) → IsOneOf (take c.loop-held.held-index xs) location one → Contains c.loop-held.all.items one) (sym same) c.loop-held.invariant.all));
      }
    ]

pub returns-clause-all : goal.returns-clause-all
returns-clause-all c = all_listed c.args.known.now.held.items c.args.location c.loop-held.held-index
    c.loop-held.all.items (subst (λ (xs : List Held). length xs ≤ c.loop-held.held-index) c.deref-held-items.ensures.value c.loop-held-test.false) c.loop-held.invariant.all
