use Rattle.std.proofs.Common.{◌≡◌, ◌++◌, List, ℕ, ap, sym, subst, ◌∙◌}
use Rattle.address_labels.specs.Labels.{marks_of}
use Rattle.scripts.specs.Session.{AreCounted}
use Rattle.core_commands.specs.Step.{ArePrinted}
use Rattle.core_commands.proofs.OfStep.{answers_asked, as_marked, told_text}
use Rattle.core_commands.proofs.step.print_asks.Goals as goal

pub returns-then-are_none-clause-printed : goal.returns-then-are_none-clause-printed
returns-then-are_none-clause-printed g c =
    answers_asked c.step_image.result c.args.script.now c.args.why (marks_of c.args.labels.now) _ _ c.if-not-why.true
    (c.are_none.ensures.0 c.if-are_none.true) c.step_image.ensures.idle

pub returns-in-Ok-put_asks-clause-printed : goal.returns-in-Ok-put_asks-clause-printed
returns-in-Ok-put_asks-clause-printed g c =
    let script : List ℕ = c.args.script.now in
    let finished = c.in-Ok.finished in
    let asks = c.in-Ok.ensures.idle in
    let lines : List ℕ = c.step_image-2.new.out.items in
    let same : lines ≡ asks.0 = asks.2 ∙ ap (λ (bs : List ℕ). bs ++ asks.0) c.new-lines.ensures.items in
    let counted : AreCounted script finished.core finished.idle lines =
    subst (λ (bs : List ℕ). AreCounted script finished.core finished.idle bs) (sym same) asks.1 in
    let printed = told_text c.args.why script finished.core finished.idle lines c.in_ok-text.text.items counted
    c.in_ok-text.ensures.same in
    as_marked script c.args.why (marks_of c.args.labels.now) finished.core finished.idle c.as_slice.result.now _ _
    (subst (λ (bs : List ℕ). ArePrinted c.args.why script finished.core finished.idle bs) (sym c.as_slice.ensures.value)
    printed) c.in-Ok-put_asks.ensures
