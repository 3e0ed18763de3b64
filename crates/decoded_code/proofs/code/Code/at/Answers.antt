use Rattle.std.proofs.Common.{sym, subst}
use Rattle.decoded_code.specs.Code.{IsFound}
use Rattle.decoded_code.proofs.Fetching.{found}
use Rattle.decoded_code.proofs.code.Code.at.Goals as goal

pub returns-clause-now : goal.returns-clause-now
returns-clause-now c =
    λ image bytes is. subst (IsFound image bytes c.args.pc) (sym c.found_at.ensures)
    (found image bytes c.args.self.now is c.args.pc)
