use Rattle.std.proofs.Common.{List, length, sym, ap, subst, true, arith}
use Rattle.std.proofs.lemmas.List.{length_push}
use Rattle.litmus_runs.specs.declared.runs.HartRuns.{HartRuns}
use Rattle.program_ways.specs.Keeping.{AreFollowed}
use Rattle.program_ways.proofs.Listing.{one_hart_more}
use Rattle.program_ways.proofs.gathering.gather.Goals as goal

pub loop-hart-preserved : goal.loop-hart-preserved
loop-hart-preserved c =
    let p = c.args.program.now in
    let shared = c.args.shared.now in
    let harts = c.loop-hart.harts.items in
    let one : HartRuns = record { runs = c.in_ok-ways.ways.runs; is_whole = true } in
    let longer = ap (λ (xs : List HartRuns). length xs) c.in_ok-push.ensures.items in
    record {
      below = omega (arith, c.loop-hart-test.true, c.loop-hart.invariant.below);
      count = omega (arith, longer, length_push harts one, c.loop-hart.invariant.count);
      runs = subst (λ (xs : List HartRuns). AreFollowed p shared xs) (sym c.in_ok-push.ensures.items)
          (one_hart_more p shared c.loop-hart.hart harts one c.loop-hart.invariant.count c.loop-hart.invariant.runs
          c.in_ok-ways.ensures.runs);
      written = c.in_ok-ways.ensures.written;
    }

pub returns : goal.returns
returns c = record {
  runs = record {
    count = omega (arith, c.loop-hart.invariant.count, c.loop-hart.invariant.below, c.loop-hart-test.false);
    each = c.loop-hart.invariant.runs;
  };
  known = c.loop-hart.invariant.written;
}
