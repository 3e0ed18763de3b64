use Rattle.std.proofs.Common.{rules, ◌≡◌, true, false}
use Rattle.clap.specs.Words.{found_of, rows_of}
use Rattle.sim_inputs.proofs.Harts.{finds_no_harts}
use Rattle.sim_inputs.proofs.found_values.harts_in.Goals as goal

pub returns-in_err-new-in-Some : goal.returns-in_err-new-in-Some
returns-in_err-new-in-Some c =
    finds_no_harts (rows_of (found_of c.args.found.now)) c.in-Some.count _ c.from_residual-in_err-new-in-Some.ensures
    (search rules) (λ may. let off : false ≡ true = c.in_err-new-in-Some.ensures.valid.1 may in cc)
