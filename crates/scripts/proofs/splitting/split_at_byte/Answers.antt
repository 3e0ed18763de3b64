use Rattle.std.proofs.Common.{sym, ◌∙◌, ◌+◌}
use Rattle.std.proofs.lemmas.List.{take_rest}
use Rattle.scripts.proofs.Parts.{cut_there, lacks_before, lacks_all}
use Rattle.scripts.proofs.splitting.split_at_byte.Goals as goal

pub returns-in_default-clause-none : goal.returns-in_default-clause-none
returns-in_default-clause-none c = lacks_all c.args.byte c.args.text.now (sym c.place_of.ensures ∙ c.in_default.is)

pub returns-clause-found : goal.returns-clause-found
returns-clause-found c =
    rw (take_rest c.args.text.now (c.in-Some.place + 1)) (cut_there c.args.byte c.args.text.now c.in-Some.place (sym c.in-Some.ensures))

pub returns-clause-first : goal.returns-clause-first
returns-clause-first c = lacks_before c.args.byte c.args.text.now c.in-Some.place (sym c.in-Some.ensures)
