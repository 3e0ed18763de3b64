use Rattle.std.proofs.Common.{inl, inr}
use Rattle.std.proofs.lemmas.Result.{IfErr-weaker}
use Rattle.plain_commands.proofs.OfLitmus.{unwritten, written_told}
use Rattle.plain_commands.proofs.litmus.write_and_print.Goals as goal

pub returns-in-Err-clause-refused : goal.returns-in-Err-clause-refused
returns-in-Err-clause-refused g c = inr c.in-Err.ensures.refused

pub returns-in-Err-clause-unwanted : goal.returns-in-Err-clause-unwanted
returns-in-Err-clause-unwanted g c undrawn unordered = c.put_state_order.ensures.unwanted unordered
