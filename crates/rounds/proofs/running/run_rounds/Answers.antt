use Rattle.std.proofs.Common.{[], refl}
use Rattle.smt_model.specs.Setup.{Setup}
use Rattle.rounds.proofs.running.run_rounds.Goals as goal

pub take_turns-requires-clause-start : goal.take_turns-requires-clause-start
take_turns-requires-clause-start g c =
    let some : Setup = record { image = c.args.image.now; harts = c.args.harts; extra = 0; queue = 0; roles = [] } in
    (some, c.in-Ok.ensures.ok.agrees some refl refl)

pub returns-clause-ran : goal.returns-clause-ran
returns-clause-ran g c = λ setup of_image of_harts.
    let made = c.in-Ok-take_turns.ensures setup (c.in-Ok.ensures.ok.agrees setup of_image of_harts) in
    record {
      turns = made.turns;
      ran = made.ran;
      are = made.are;
      retired = made.count;
      statuses = c.statuses_of-statuses.ensures setup made.ran.state made.agrees;
      agrees = made.agrees;
      printed = made.printed;
    }
