-- There are few rows, since there are few runs; and the histogram of the tally is that of its runs.
use Rattle.std.proofs.Common.{◌≡◌, ap}
use Rattle.core_commands.specs.Stress.{runs_of}
use Rattle.core_commands.proofs.OfTestRuns.{counted, few}
use Rattle.core_commands.proofs.test_runs.count_runs.Goals as goal

pub print_histogram-requires-clause-few : goal.print_histogram-requires-clause-few
print_histogram-requires-clause-few g c =
    few c.args.settings.now c.args.image.now c.args.watch.now _ _ c.runs_of-count.result c.in-Ok.tally
    c.in-Ok.ensures.tallied c.runs_of-count.type_inv

pub returns-clause-counted : goal.returns-clause-counted
returns-clause-counted g c =
    let over = counted c.args.test.now c.args.settings.now c.args.image.now c.args.watch.now _ _
    c.args.outcomes.now.listed _ c.in-Ok.tally _ _ c.in-Ok.ensures.tallied c.print_histogram.result c.print_histogram.ensures.printed
    c.print_histogram.ensures.status in
    let many : c.runs_of-count.result ≡ runs_of c.args.times = c.runs_of-count.ensures.asked in
    let out : g.W.Write.contents c.tally_runs.new.context.out ≡ g.W.Write.contents c.args.context.now.out =
    ap g.W.Write.contents c.in-Ok.ensures.unprinted in
    rw (← many, ← out) over
