use Rattle.std.proofs.Common.{sym, ◌∙◌, ◌-◌, arith}
use Rattle.symbols.proofs.LastFile.{goes_on}
use Rattle.symbols.proofs.parts.last_file.Goals as goal

pub loop-left-preserved : goal.loop-left-preserved
loop-left-preserved c = record {
  within = omega (arith, c.loop-left.invariant.within);
  same =
      c.loop-left.invariant.same
      ∙ goes_on c.args.file.now c.args.start (c.loop-left.left - 1) c.loop-left.left c.symbol_at-entry.result
      (omega (arith, c.loop-left-test.true)) c.symbol_at-entry.ensures (sym c.is_file.ensures ∙ c.if-is_file.false);
}
