use Rattle.std.proofs.Common.{◌≡◌, List, Some, None, length, slice_get, sym, subst, ◌-◌}
use Rattle.std.proofs.lemmas.Result.{on_ok_weaker}
use Rattle.litmus_runs.specs.declared.access.Access.{Access}
use Rattle.litmus_runs.proofs.Listing.{one_number_more}
use Rattle.litmus_runs.proofs.Tables.{got_is_in, last_learnt, no_write_last, no_last}
use Rattle.litmus_runs.proofs.written.Written.learn.Goals as goal

pub add-requires-clause-may : goal.add-requires-clause-may
add-requires-clause-may c =
    let there = subst (λ (xs : List Access). Some c.in-Some.access.now ≡ slice_get xs (length xs - 1))
    c.deref.ensures.value c.in-Some.ensures.value in
    one_number_more c.args.asked.now.test.now c.args.asked.now.index c.args.asked.now.thread.now c.args.hart.now
    c.in-Some.access.now c.in-Some-writes.number c.requires.thread c.requires.way
    (got_is_in c.args.hart.now.accesses.items _ c.in-Some.access.now (sym there)) c.in-Some-writes.is

pub returns-clause-learnt : goal.returns-clause-learnt
returns-clause-learnt c =
    let there = subst (λ (xs : List Access). Some c.in-Some.access.now ≡ slice_get xs (length xs - 1))
    c.deref.ensures.value c.in-Some.ensures.value in
    on_ok_weaker c.add.result (λ added whole. last_learnt c.add.new.self.held.items c.args.hart.now.accesses.items
    c.in-Some.access.now c.in-Some-writes.number there c.in-Some-writes.is (added whole)) c.add.ensures.added

pub returns-in_default-clause-learnt : goal.returns-in_default-clause-learnt
returns-in_default-clause-learnt c =
    let there = subst (λ (xs : List Access). None ≡ slice_get xs (length xs - 1))
    c.deref.ensures.value c.in_default.ensures.value in
    λ _. no_last c.args.self.now.known.held.items c.args.hart.now.accesses.items there

pub returns-in_default-writes-clause-learnt : goal.returns-in_default-writes-clause-learnt
returns-in_default-writes-clause-learnt c =
    let there = subst (λ (xs : List Access). Some c.in-Some.access.now ≡ slice_get xs (length xs - 1))
    c.deref.ensures.value c.in-Some.ensures.value in
    λ _. no_write_last c.args.self.now.known.held.items c.args.hart.now.accesses.items c.in-Some.access.now there
    c.in_default-writes.is
