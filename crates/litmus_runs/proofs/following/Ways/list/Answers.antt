use Rattle.std.proofs.Common.{refl, ◌∙◌}
use Rattle.litmus_runs.proofs.Listing.{one_run_more}
use Rattle.litmus_runs.proofs.Leads.{listed_last}
use Rattle.litmus_runs.proofs.following.Ways.list.Goals as goal

pub returns-then-not-count-clause-runs : goal.returns-then-not-count-clause-runs
returns-then-not-count-clause-runs c = rw c.count.ensures.runs c.requires.runs

pub returns-clause-runs : goal.returns-clause-runs
returns-clause-runs c = rw (c.in_ok-push.ensures.items, c.count.ensures.runs)
    (one_run_more c.args.asked.now.test.now c.args.asked.now.thread.now c.args.self.now.runs.items c.args.hart.now _
    c.requires.runs c.requires.way c.requires.end (c.in_ok-accesses.ensures ∙ c.as_slice.ensures.value) refl)

pub returns-clause-listed : goal.returns-clause-listed
returns-clause-listed c = λ _. rw c.in_ok-push.ensures.items
    (listed_last c.count.new.self.runs.items _ c.args.hart.now (c.in_ok-accesses.ensures ∙ c.as_slice.ensures.value) refl)
