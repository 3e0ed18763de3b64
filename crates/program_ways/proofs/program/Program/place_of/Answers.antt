use Rattle.std.proofs.Common.{sym, ◌∙◌}
use Rattle.program_ways.proofs.SameOp.{op_same}
use Rattle.program_ways.proofs.program.Program.place_of.Goals as goal

pub returns-then-eq : goal.returns-then-eq
returns-then-eq c = record {
  place = c.in_ok-place.place;
  there = sym c.place_at.ensures ∙ c.in_ok-place.was;
  pc_is = c.if-place-pc.false;
  instr = op_same _ c.args.op (sym c.eq.ensures ∙ c.if-eq.true);
}
