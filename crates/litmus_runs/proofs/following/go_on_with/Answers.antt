use Rattle.std.proofs.Common.{Option, IfSome, subst, ◌≡◌, length, ◌∙◌, ap, List, ◌++◌, ◌∷◌, []}
use Rattle.std.proofs.lemmas.List.Elements.{All-push}
use Rattle.litmus_runs.specs.declared.{hart.Hart.Hart, following.Going.Going, turns.Standing.Standing}
use Rattle.litmus_runs.specs.Steps.{HasTaken}
use Rattle.litmus_runs.specs.Ways.{IsOnWay}
use Rattle.litmus_runs.proofs.Listing.{one_step_more}
use Rattle.litmus_runs.proofs.Leads.{gone_by, left_more}
use Rattle.litmus_runs.proofs.following.go_on_with.Goals as goal

taken : (c : goal.In_ok-push) → HasTaken c.args.step c.args.found c.args.from.now.hart c.in-Some.hart
taken c = subst (λ (o : Option Hart). IfSome o (HasTaken c.args.step c.args.found c.args.from.now.hart)) c.in-Some.is
    c.in_ok-hart.ensures.taken

pub returns-clause-going : goal.returns-clause-going
returns-clause-going c =
    let test = c.args.asked.now.test.now in
    let thread = c.args.asked.now.thread.now in
    rw c.in_ok-push.ensures.items
    (All-push (λ (one : Going). IsOnWay test thread one.hart) c.args.going.now.items _ c.requires.going
    (one_step_more test thread c.args.asked.now.known.now c.args.from.now.hart c.in-Some.hart c.args.step c.args.found
    c.requires.known c.requires.from c.requires.step c.requires.found (taken c)))

pub returns-clause-gone : goal.returns-clause-gone
returns-clause-gone c = λ _. rw c.in_ok-push.ensures.items
    (gone_by c.args.asked.now.has_conditionals c.args.asked.now.thread.now c.args.asked.now.known.now.held.items
    c.args.from.now _ c.args.going.now.items c.args.standing c.args.step c.args.found c.requires.standing (taken c)
    (subst (λ (o : Option Hart). IfSome o (λ hart. length hart.registers ≡ 32)) c.in-Some.is c.in_ok-hart.ensures.size)
    (c.in_ok-before.ensures
    ∙ ap (λ (xs : List Standing). xs ++ c.args.standing ∷ []) c.as_slice.ensures.value))

pub returns-clause-left : goal.returns-clause-left
returns-clause-left c = rw c.in_ok-push.ensures.items
    (left_more c.args.from.now.hart c.args.going.now.items _ c.args.step c.args.found (taken c))
