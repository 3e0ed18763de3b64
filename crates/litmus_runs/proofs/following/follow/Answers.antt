use Rattle.std.proofs.Common.{arith, ◌∙◌, ◌≡◌, inr, List, ◌++◌, ◌∷◌, [], ap, sym, subst, true}
use Rattle.std.proofs.lemmas.List.Elements.{All-nil, All-pop, All-push}
use Rattle.litmus_runs.specs.declared.hart.Hart.{Hart}
use Rattle.litmus_runs.specs.declared.following.Going.{Going}
use Rattle.litmus_runs.specs.Ways.{AreGoing, IsOnWay}
use Rattle.litmus_runs.specs.AllWays.{IsFollowed}
use Rattle.litmus_runs.specs.Work.{AreAllButLast, Comes}
use Rattle.litmus_runs.proofs.Leads.{no_item}
use Rattle.litmus_runs.proofs.Stack.{comes_of_start, start_is_learnt, listed_further, learnt_further, this_is_learnt, all_are_listed, all_are_learnt}
use Rattle.litmus_runs.proofs.following.follow.Goals as goal

pub go_on-requires-clause-going : goal.go_on-requires-clause-going
go_on-requires-clause-going c =
    (All-pop (λ (one : Going). IsOnWay c.args.asked.now.test.now c.args.asked.now.thread.now one.hart)
    c.steps.going.items c.pop.new.self.items c.pop.result c.pop.ensures.items c.steps.invariant.going).0

pub steps-init : goal.steps-init
steps-init c =
    let thread = c.args.asked.now.thread.now in
    let start = c.at_start.result in
    let is : c.push.new.self.items ≡ [] ++ start ∷ [] =
    c.in_ok-push.ensures.items ∙ ap (λ (xs : List Going). xs ++ start ∷ []) c.new-going.ensures.items in
    let comes = λ (last : Hart). λ (followed : IsFollowed c.args.asked.now.has_conditionals thread
    c.args.asked.now.known.now.held.items last).
    subst (λ (xs : List Going). Comes c.args.asked.now.has_conditionals thread
    c.args.asked.now.known.now.held.items xs last) (sym is)
    (comes_of_start c.args.asked.now.has_conditionals thread c.args.asked.now.known.now.held.items start last
    c.at_start.ensures.start c.at_start.ensures.size c.at_start.ensures.before followed) in
    record {
      going = subst (λ (xs : List Going). AreGoing c.args.asked.now.test.now thread xs) (sym is)
          (All-push (λ (one : Going). IsOnWay c.args.asked.now.test.now thread one.hart) [] start
          (All-nil (λ (one : Going). IsOnWay c.args.asked.now.test.now thread one.hart)) c.at_start.ensures.way);
      runs = c.requires.runs;
      written = c.requires.written;
      kept = record { whole = λ h. h; kept = λ held there. there };
      listed = λ whole last followed over. inr (comes last followed);
      learnt = λ whole known last followed. inr (comes last followed);
      left = λ whole. subst (λ (xs : List Going). AreAllButLast c.args.written.now.known.held.items xs) (sym is)
          (start_is_learnt thread c.args.written.now.known.held.items start c.at_start.ensures.start);
    }

pub steps-preserved : goal.steps-preserved
steps-preserved c =
    let conditionals = c.args.asked.now.has_conditionals in
    let thread = c.args.asked.now.thread.now in
    let known = c.args.asked.now.known.now.held.items in
    let from = c.in-Some.next in
    let old = c.steps.going.items in
    let rest = c.pop.new.self.items in
    let after = c.go_on.new.going.items in
    let before = c.steps.written.known in
    let table = c.go_on.new.written.known in
    let done = c.in_ok-go_on.ensures in
    let inv = c.steps.invariant in
    let here = λ (whole : table.is_whole ≡ true). this_is_learnt before table old rest from c.in-Some.ensures.items
    done.kept (inv.left (done.kept.whole whole)) (done.learnt whole) in
    record {
      going = done.going;
      runs = done.runs;
      written = done.written;
      kept = record {
        whole = λ h. inv.kept.whole (done.kept.whole h);
        kept = λ held there. done.kept.kept held (inv.kept.kept held there);
      };
      listed = λ whole. listed_further conditionals thread known from old rest after c.steps.ways c.go_on.new.ways
          c.in-Some.ensures.items done.ways done.all whole (inv.listed (done.ways.whole whole));
      learnt = λ whole knows. learnt_further conditionals thread known from old rest after before table
          c.go_on.new.ways c.in-Some.ensures.items done.kept done.all whole (here knows).0
          (inv.learnt (done.ways.whole whole) (done.kept.whole knows));
      left = λ knows. done.all.left.more table.held.items (here knows).0 (here knows).1;
    }

none_left : (c : goal.After-drop-going-in_default) → c.steps.going.items ≡ []
none_left c = no_item c.steps.going.items (omega (arith, c.in_default.ensures.cases.0, c.steps.going.ok.0))

pub returns-in_default-clause-listed : goal.returns-in_default-clause-listed
returns-in_default-clause-listed c = λ whole. all_are_listed c.args.asked.now.has_conditionals
    c.args.asked.now.thread.now c.args.asked.now.known.now.held.items c.steps.ways.runs.items c.steps.going.items
    (none_left c) (c.steps.invariant.listed whole)

pub returns-in_default-clause-learnt : goal.returns-in_default-clause-learnt
returns-in_default-clause-learnt c = λ whole knows. all_are_learnt c.args.asked.now.has_conditionals
    c.args.asked.now.thread.now c.args.asked.now.known.now.held.items c.steps.written.known.held.items
    c.steps.going.items (none_left c) (c.steps.invariant.learnt whole knows)
