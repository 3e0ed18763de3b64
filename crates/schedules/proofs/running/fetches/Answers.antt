use Rattle.std.proofs.Common.{◌≡◌, ◌||◌, false, not, ap, sym, ◌∙◌}
use Rattle.smt_model.specs.Plain.{is_going_status}
use Rattle.schedules.proofs.running.fetches.Goals as goal

pub returns-else-not-writable : goal.returns-else-not-writable
returns-else-not-writable c = λ setup s agrees.
    let test : not c.args.writable ≡ false = ap not c.if-not-writable.false in
    c.is_going.ensures ∙ ap is_going_status (c.status.ensures setup s agrees)
    ∙ ap (λ b. b || is_going_status (s.statuses c.args.hart)) (sym test)
