-- As in `perform_test`: what was found is all of it, or there is more than was to be looked at.
use Rattle.std.proofs.Common.{sym, ◌∙◌}
use Rattle.plain_commands.proofs.OfLitmus.{beyond_of}
use Rattle.plain_commands.proofs.OfSummary.{all_said, more_said}
use Rattle.plain_commands.proofs.litmus_summary.verdict_in.Goals as goal

pub returns-in-Whole-clause-says : goal.returns-in-Whole-clause-says
returns-in-Whole-clause-says g c =
    let watched = c.watch_of-watch.ensures in
    let found = c.in-Ok-find_shown.ensures in
    let whole = sym c.extent.ensures ∙ c.in-Whole.is in
    all_said c.args.test.now c.args.states c.in-Ok.image c.watch_of-watch.result c.harts_of.result c.harts_of.ensures
    (record { is_image = c.in-Ok.ensures; registers = watched.registers; words = watched.words })
    c.in-Ok-find_shown.outcomes (found.found.all whole) (found.found.cores whole) found.once c.whole_verdict.result
    c.whole_verdict.ensures.says

pub returns-in-Ok-find_shown : goal.returns-in-Ok-find_shown
returns-in-Ok-find_shown g c =
    let watched = c.watch_of-watch.ensures in
    let found = c.in-Ok-find_shown.ensures in
    let beyond = beyond_of c.in-Ok-find_shown.outcomes c.extent.result c.extent.ensures
    (λ first. (found.asked first).2) c.in-Beyond.is in
    record {
      says = more_said c.args.test.now c.args.states c.in-Ok.image c.watch_of-watch.result c.harts_of.result
          c.harts_of.ensures
          (record { is_image = c.in-Ok.ensures; registers = watched.registers; words = watched.words })
          (found.found.beyond beyond);
      refused = tt;
    }
