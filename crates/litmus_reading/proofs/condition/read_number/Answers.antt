use Rattle.std.proofs.Common.{Err}
use Rattle.litmus_reading.proofs.Chains.{ok_so}
use Rattle.litmus_reading.proofs.Fitted.{fitting_taken, width_fitting}
use Rattle.litmus_reading.proofs.condition.read_number.Goals as goal

pub returns-clause-taken : goal.returns-clause-taken
returns-clause-taken c =
    ok_so c.value.result _ _ (λ p taken. fitting_taken c.args.width c.args.words.now _ _
    c.in_ok-check_width.ensures.number c.in_ok-check_width.ensures.address taken) c.value.ensures.taken

pub returns-in_err-check_width-clause-only : goal.returns-in_err-check_width-clause-only
returns-in_err-check_width-clause-only c = λ value rest taken no_index no_offset.
    absurd (width_fitting c.args.width c.args.words.now (Err c.in_err-check_width.field-0.0)
    c.in_err-check_width.ensures.only_number c.in_err-check_width.ensures.only_address value rest taken)
