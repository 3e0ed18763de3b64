use Rattle.std.proofs.Common.{not, sym, ap, subst, ◌∙◌, arith}
use Rattle.std.specs.Prelude.{All}
use Rattle.std.proofs.lemmas.List.{take_all}
use Rattle.schedules.specs.Refusals.{IsServed}
use Rattle.schedules.proofs.Serving.{unserved, none_there}
use Rattle.schedules.proofs.units.missing_unit.Goals as goal

pub returns-then-is_none-clause-missing : goal.returns-then-is_none-clause-missing
returns-then-is_none-clause-missing c =
    unserved c.args.roles.now c.args.records.now c.loop-record.record-index _
    c.unit_of_record-kind.result c.loop-record-test.true c.loop-record.invariant c.unit_of_record-kind.ensures
    (sym c.first_unit.ensures ∙ none_there c.first_unit.result (c.is_none.ensures ∙ ap not c.if-is_none.true))

pub returns-clause-served : goal.returns-clause-served
returns-clause-served c =
    subst (All (IsServed c.args.roles.now))
    (take_all c.loop-record.record-index c.args.records.now (omega arith)) c.loop-record.invariant
