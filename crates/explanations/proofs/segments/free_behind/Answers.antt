use Rattle.std.proofs.Common.{arith, rules, length, ap}
use Rattle.explanations.proofs.Ends.{ends}
use Rattle.explanations.proofs.segments.free_behind.Goals as goal

pub returns : goal.returns
returns c = record {
  behind = λ k d inside.
      let before =
      ends c.args.image.now c.index-segments-segments.result c.ram.ensures.well_formed (search rules) k d inside in
      omega (arith, before, c.address.ensures, ap length c.bytes.ensures, c.bytes-2.ensures.value, c.ram.ensures.value);
  adjoins = search rules;
}
