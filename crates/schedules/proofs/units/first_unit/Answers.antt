use Rattle.std.proofs.Common.{◌≡◌, ◌∙◌}
use Rattle.smt_laws.specs.Scripts.{unit_of_kind}
use Rattle.schedules.proofs.Places.{unit_at}
use Rattle.schedules.proofs.units.first_unit.Goals as goal

pub returns-in-Some : goal.returns-in-Some
returns-in-Some c =
    let first : c.place_of_unit.result ≡ unit_of_kind c.args.roles.now c.args.kind =
    c.place_of_unit.ensures.place ∙ unit_at c.args.kind c.args.roles.now in
    cc

pub returns-in-None : goal.returns-in-None
returns-in-None c =
    let first : c.place_of_unit.result ≡ unit_of_kind c.args.roles.now c.args.kind =
    c.place_of_unit.ensures.place ∙ unit_at c.args.kind c.args.roles.now in
    cc
