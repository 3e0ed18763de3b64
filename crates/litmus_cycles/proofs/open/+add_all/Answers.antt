use Rattle.std.proofs.Common.{rules}
use Rattle.std.proofs.lemmas.{Result.IfOk-equal, List.append_assoc}
use Rattle.litmus_cycles.proofs.Opening.{all_open_next}
use Rattle.litmus_cycles.proofs.open.+add_all.Goals as goal

pub returns : goal.returns
returns t c =
    let next = all_open_next c.args.events.now c.args.location c.args.left c.if-left-eq0.false in
    search (rules, IfOk-equal, append_assoc, next)
