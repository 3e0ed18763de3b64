use Rattle.std.proofs.Common.{rules}
use Rattle.rv_text.specs.{Spelling.target_of}
use Rattle.rv_text.proofs.printer.jump_target.Goals as goal

pub returns : goal.returns
unfolding target_of
returns c = search rules
