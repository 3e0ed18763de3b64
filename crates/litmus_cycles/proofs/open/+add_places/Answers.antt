use Rattle.std.proofs.Common.{rules}
use Rattle.std.proofs.lemmas.{Result.IfOk-equal, List.append_assoc}
use Rattle.litmus_cycles.proofs.Opening.{places_next}
use Rattle.litmus_cycles.proofs.open.+add_places.Goals as goal

pub returns : goal.returns
returns t c =
    let next = places_next c.args.location c.args.count c.if-count-eq0.false in
    search (rules, IfOk-equal, append_assoc, next)
