use Rattle.std.proofs.Common.{sym, ◌∙◌}
use Rattle.litmus_cycles.proofs.Beginning.{none_begun}
use Rattle.litmus_cycles.proofs.deciding.Asked.may_begin.Goals as goal

pub returns : goal.returns
returns c =
    let asked = c.args.self.now in
    record {
      none = λ fails rest. none_begun asked.test.now asked.runs.now asked.chosen.now asked.demand rest c.args.events.now
          (sym c.may_be_written.ensures ∙ fails);
    }
