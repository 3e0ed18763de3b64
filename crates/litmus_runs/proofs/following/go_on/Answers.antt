use Rattle.std.proofs.Common.{Option, IfSome, List, subst, sym, ◌∙◌, Contains, Vec}
use Rattle.std.proofs.lemmas.Result.{on_ok_weaker}
use Rattle.litmus_runs.specs.declared.{finding.Found.Found, turns.Standing.Standing}
use Rattle.litmus_runs.specs.Turns.{IsOneAlike}
use Rattle.litmus_runs.specs.Ways.{MayFind}
use Rattle.litmus_runs.specs.AllWays.{IsPlainAt}
use Rattle.litmus_runs.proofs.Leads.{beyond_end, beyond_cut, beyond_turn, beyond_all, left_as_before, all_of}
use Rattle.litmus_runs.proofs.following.go_on.Goals as goal

pub returns-in_default-clause-all : goal.returns-in_default-clause-all
returns-in_default-clause-all c = on_ok_weaker c.list.result
    (λ listed. beyond_end c.args.asked.now.has_conditionals c.args.asked.now.thread.now
    c.args.asked.now.known.now.held.items c.args.from c.args.going.now.items c.list.new.self
    (sym c.step_at.ensures ∙ c.in_default.is) listed) c.list.ensures.listed

pub returns-then-is_needless-clause-runs : goal.returns-then-is_needless-clause-runs
returns-then-is_needless-clause-runs c = rw c.count.ensures.runs c.requires.runs

pub returns-then-is_needless-clause-all : goal.returns-then-is_needless-clause-all
returns-then-is_needless-clause-all c = beyond_turn c.args.asked.now.has_conditionals c.args.asked.now.thread.now
    c.args.asked.now.known.now.held.items c.args.from c.in-Some.step c.of-standing.result c.args.going.now.items
    c.count.new.self (sym c.step_at.ensures ∙ c.in-Some.is) c.of-standing.ensures
    (subst (λ (xs : List Standing). IsOneAlike c.in-Some.step xs c.of-standing.result) c.as_slice.ensures.value
    (c.is_needless.ensures c.if-is_needless.true))

pub returns-then-len-ge-MOST_STEPS_RUN-clause-runs : goal.returns-then-len-ge-MOST_STEPS_RUN-clause-runs
returns-then-len-ge-MOST_STEPS_RUN-clause-runs c = rw c.cut.ensures.runs c.requires.runs

pub returns-then-len-ge-MOST_STEPS_RUN-clause-all : goal.returns-then-len-ge-MOST_STEPS_RUN-clause-all
returns-then-len-ge-MOST_STEPS_RUN-clause-all c = beyond_cut c.args.asked.now.has_conditionals
    c.args.asked.now.thread.now c.args.asked.now.known.now.held.items c.args.from c.args.going.now.items
    c.args.going.now.items c.cut.new.self (left_as_before c.args.from.hart c.args.going.now.items) c.cut.ensures.whole

pub returns-in_default-2-clause-runs : goal.returns-in_default-2-clause-runs
returns-in_default-2-clause-runs c = rw c.cut-in_default-2.ensures.runs c.requires.runs

pub returns-in_default-2-clause-all : goal.returns-in_default-2-clause-all
returns-in_default-2-clause-all c = beyond_cut c.args.asked.now.has_conditionals
    c.args.asked.now.thread.now c.args.asked.now.known.now.held.items c.args.from c.args.going.now.items
    c.args.going.now.items c.cut-in_default-2.new.self (left_as_before c.args.from.hart c.args.going.now.items)
    c.cut-in_default-2.ensures.whole

pub returns-clause-runs : goal.returns-clause-runs
returns-clause-runs c = on_ok_weaker c.go_on_by.result
    (λ _. rw c.go_on_by.ensures.runs c.requires.runs) c.go_on_by.ensures.going

pub returns-clause-all : goal.returns-clause-all
returns-clause-all c = all_of c.go_on_by.result
    (λ left each. beyond_all c.args.asked.now.has_conditionals c.args.asked.now.thread.now
    c.args.asked.now.known.now.held.items c.args.from c.in-Some.step c.in-Some-2.all.items c.args.going.now.items
    c.go_on_by.new.going.items c.go_on_by.new.ways (sym c.step_at.ensures ∙ c.in-Some.is) left
    (subst (λ (o : Option (Vec Found _)). IfSome o (λ all. (one : Found) → MayFind c.args.asked.now.known.now.held.items c.in-Some.step c.args.from.hart one → IsPlainAt c.in-Some.step c.args.from.hart one → Contains all.items one)) c.in-Some-2.is
    c.in_ok-all.ensures.all) each)
    c.go_on_by.ensures.left c.go_on_by.ensures.each
