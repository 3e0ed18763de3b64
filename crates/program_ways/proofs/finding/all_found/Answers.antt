use Rattle.std.proofs.Common.{All}
use Rattle.std.specs.Prelude.{Vec}
use Rattle.std.proofs.lemmas.Result.{IfOk-weaker}
use Rattle.std.specs.declared.alloc.Global.{Global}
use Rattle.litmus_runs.specs.declared.finding.Found.{Found}
use Rattle.program_ways.specs.Keeping.{IsOneOf, MayFind}
use Rattle.program_ways.proofs.finding.all_found.Goals as goal

pub returns-in-Loading : goal.returns-in-Loading
returns-in-Loading c =
    let known = c.args.known.now.held.items in
    let sharing = c.args.sharing.now in
    IfOk-weaker c.numbers.result (λ (all : Vec Found Global). All (IsOneOf known sharing.location) all.items)
    (λ (all : Vec Found Global). All (MayFind known sharing) all.items)
    (λ all are k d within.
    record { place = (are k d within).place; number = λ _. (are k d within).number }) c.numbers.ensures
