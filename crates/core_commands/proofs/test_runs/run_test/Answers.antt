-- The states are all, or there are more than were to be looked at.
use Rattle.event_text.specs.Sinking.{HasPut}
use Rattle.std.proofs.Common.{ℕ, sym, subst, ◌∙◌}
use Rattle.watched_outcomes.specs.Watching.{AreThere}
use Rattle.plain_commands.proofs.OfLitmus.{beyond_of, image_kept, of_harts}
use Rattle.core_commands.proofs.OfTestRuns.{all_counted, more_counted, want_refused}
use Rattle.core_commands.specs.Making.{AreMade, LeavesCore}
use Rattle.core_commands.proofs.test_runs.run_test.Goals as goal

pub count_runs-requires-clause-there : goal.count_runs-requires-clause-there
count_runs-requires-clause-there g c =
    let there = c.in-Ok-find_shown.ensures.present in
    record {
      registers = subst (λ (n : ℕ). AreThere n c.watch_of-watch.result) (c.harts_of-harts.ensures ∙ sym c.requires.harts)
          there.0;
      words = there.1;
    }

pub returns-in-Err-clause-refused : goal.returns-in-Err-clause-refused
returns-in-Err-clause-refused g c =
    want_refused c.args.settings.now c.in-Err.refused c.in-Err.ensures.refused

pub returns-in-Whole-clause-ended : goal.returns-in-Whole-clause-ended
returns-in-Whole-clause-ended g c =
    let watched = c.watch_of-watch.ensures in
    let found = c.in-Ok-find_shown.ensures in
    let whole = sym c.extent.ensures ∙ c.in-Whole.is in
    all_counted c.args.test.now c.args.settings.now c.args.command.now c.in-Ok.image c.watch_of-watch.result
    (AreMade (LeavesCore (goal.M-step g)) c.args.make_run.now c.count_runs.new.make_run)
    (HasPut g.S.Sink.written g.S.Sink.has_failed c.args.context.now.files c.count_runs.new.context.files)
    (image_kept g.S.Sink.written g.S.Sink.has_failed c.args.context.now.files c.put_image.new.file
    c.count_runs.new.context.files c.args.test.now c.args.command.now c.in-Ok.image c.in-Ok-put_image.ensures.kept
    (λ undrawn unordered. c.count_runs.ensures.unwanted))
    c.in-Ok-find_shown.outcomes c.args.times c.requires.harts
    (record { is_image = c.in-Ok.ensures; registers = watched.registers; words = watched.words })
    (of_harts _ _ _ _ c.harts_of-harts.ensures (found.found.all whole))
    (of_harts _ _ _ _ c.harts_of-harts.ensures (found.found.cores whole)) found.once
    (g.W.Write.contents c.args.context.now.out) (g.W.Write.contents c.count_runs.new.context.out) c.count_runs.result
    c.count_runs.ensures.counted

pub returns-in-Ok-write_incomplete-clause-ended : goal.returns-in-Ok-write_incomplete-clause-ended
returns-in-Ok-write_incomplete-clause-ended g c =
    let watched = c.watch_of-watch.ensures in
    let found = c.in-Ok-find_shown.ensures in
    let beyond = beyond_of c.in-Ok-find_shown.outcomes c.extent.result c.extent.ensures
    (λ first. (found.asked first).2) c.in-Beyond.is in
    more_counted c.args.test.now c.args.settings.now c.args.command.now c.in-Ok.image c.watch_of-watch.result
    (AreMade (LeavesCore (goal.M-step g)) c.args.make_run.now c.args.make_run.now)
    (HasPut g.S.Sink.written g.S.Sink.has_failed c.args.context.now.files c.put_image.new.file)
    (λ wanted undrawn unordered. c.in-Ok-put_image.ensures.kept wanted)
    c.harts_of-harts.result c.harts_of-harts.ensures
    (record { is_image = c.in-Ok.ensures; registers = watched.registers; words = watched.words }) c.args.times
    (g.W.Write.contents c.args.context.now.out) (g.W.Write.contents c.write_incomplete.new.out)
    (found.found.beyond beyond) c.in-Ok-write_incomplete.ensures
