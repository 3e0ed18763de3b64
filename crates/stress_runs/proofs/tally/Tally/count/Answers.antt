use Rattle.std.proofs.Common.{ap, refl, ◌∙◌, ◌++◌, ◌∷◌, []}
use Rattle.std.proofs.lemmas.List.{with_items_is}
use Rattle.stress_runs.specs.{Ends.end_of}
use Rattle.stress_runs.proofs.Tallying.{counts_in_row, counts_in_new}
use Rattle.stress_runs.proofs.tally.Tally.count.Goals as goal

pub returns-then-count_in-clause-counted : goal.returns-then-count_in-clause-counted
returns-then-count_in-clause-counted c =
    let counted = rw c.as_mut_slice.ensures.value at c.count_in.ensures.counted in
    let told = rw c.as_mut_slice.ensures.value at c.count_in.ensures.there in
    counts_in_row c.in_ok-end.end (end_of c.args.watch.now c.args.core.now) c.args.self.now c.self.inside.rows.items
    c.count_in.new.rows c.self.inside.status c.worse-self-inside.result c.status_in.result c.count_in.result
    c.self.view_is c.in_ok-end.ensures counted told c.worse-self-inside.ensures c.status_in.ensures _
    (with_items_is c.self.inside.rows c.count_in.new.rows (c.count_in.auto.rows ∙ c.as_mut_slice.ensures.len))
    c.if-count_in.true

pub returns-clause-counted : goal.returns-clause-counted
returns-clause-counted c =
    let counted = rw c.as_mut_slice.ensures.value at c.count_in.ensures.counted in
    let told = rw c.as_mut_slice.ensures.value at c.count_in.ensures.there in
    let back = with_items_is c.self.inside.rows c.count_in.new.rows
    (c.count_in.auto.rows ∙ c.as_mut_slice.ensures.len) in
    counts_in_new c.in_ok-end.end (end_of c.args.watch.now c.args.core.now) c.args.self.now c.self.inside.rows.items
    c.count_in.new.rows c.self.inside.status c.worse-self-inside.result c.status_in.result c.count_in.result
    c.self.view_is c.in_ok-end.ensures counted told c.worse-self-inside.ensures c.status_in.ensures _ c.in_ok-end.end
    (c.in_ok-push.ensures.items ∙ ap (λ rows. rows ++ record { end = c.in_ok-end.end; count = 1 } ∷ []) back)
    refl c.if-count_in.false
